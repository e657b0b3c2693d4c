-- `table::atom_there`: an atom is not 0, which a word past the end would be, so the word is there.
use borrow.Author.Rules.{rules}
use Rattle.table.specs.Inner.Words.{pair_width, word_at, pair_atom}
use Rattle.table.proofs.Words.{atom_within}
use Rattle.table.proofs.atom_there.Goals as goal

pub bounds-code-j : goal.bounds-code-j
unfolding pair_width
bounds-code-j c = atom_within c.args.code.now c.args.j c.requires

pub returns : goal.returns
unfolding pair_atom word_at pair_width
returns c = search rules
