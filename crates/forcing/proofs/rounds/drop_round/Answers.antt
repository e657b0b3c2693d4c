-- `forcing::rounds::drop_round`: U is gathered from nothing, and the atoms outside it are dropped.
use Rattle.rules.specs.Limits.{atoms_most}
use Rattle.weigh.proofs.Bytes.{blank_proper, blank_side}
use Rattle.forcing.proofs.Closings.{dropped}
use Rattle.forcing.proofs.rounds.drop_round.Goals as goal

pub founded-requires-clause-blank : goal.founded-requires-clause-blank
unfolding atoms_most
founded-requires-clause-blank c =
    let few = c.args.t.now.laid.few_atoms in record { proper = blank_proper atoms_most _ few; blank = blank_side atoms_most _ few }

pub returns : goal.returns
returns c =
    let t = c.args.t.now in
    dropped t.code.now t.atoms t.rules _ _ _ _ c.founded.ensures c.drop_all.ensures
