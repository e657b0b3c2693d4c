-- `forcing::rounds::close`: what the rounds add is forced from the map at first, and each round that adds something leaves fewer
-- atoms undecided.
use Rattle.rules.specs.Map.{undecided}
use Rattle.forcing.proofs.Closings.{Closes}
use Rattle.forcing.proofs.rounds.close.Given as goal

abbrev pub invariant-loop-down : goal.invariant-loop-down
invariant-loop-down l = Closes l.t.code.now l.t.atoms l.t.rules l.initial.m l.m

abbrev pub decreases-loop-down : goal.decreases-loop-down
decreases-loop-down l = undecided l.t.atoms l.m
