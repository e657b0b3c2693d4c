-- `table::weight_there`: the atom is not 0, which a word past the end would be, so the weight's word, before it, is there.
use native.Mathlib.Omega.{arith}
use borrow.Author.Rules.{rules}
use Rattle.table.specs.Inner.Words.{pair_width, word_at, pair_weight}
use Rattle.table.proofs.Words.{atom_within}
use Rattle.table.proofs.weight_there.Goals as goal

pub bounds-code-j : goal.bounds-code-j
unfolding pair_width
bounds-code-j c = omega (arith, atom_within c.args.code.now c.args.j c.requires)

pub returns : goal.returns
unfolding pair_weight word_at pair_width
returns c = search rules
