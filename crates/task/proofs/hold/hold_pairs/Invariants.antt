-- `hold_pairs` meets its contract. The invariant: whatever holding the pairs that are left comes to, holding the run comes to.
use Rattle.task.proofs.hold.Laws.{Left}
use Rattle.task.proofs.hold.hold_pairs.Given as goal

abbrev pub invariant-loop-j : goal.invariant-loop-j
invariant-loop-j l = Left l.row.code.now l.row.atoms l.from l.to l.inside l.initial.m l.m l.j
