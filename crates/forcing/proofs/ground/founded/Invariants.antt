-- `forcing::ground::founded`: what is gathered has to be in U, and each sweep that adds something leaves fewer atoms outside.
use Rattle.rules.specs.Map.{undecided}
use Rattle.forcing.proofs.Founding.{Founding}
use Rattle.forcing.proofs.ground.founded.Given as goal

abbrev pub invariant-loop-down : goal.invariant-loop-down
invariant-loop-down l = Founding l.t.code.now l.t.atoms l.t.rules l.m l.initial.u l.u

abbrev pub decreases-loop-down : goal.decreases-loop-down
decreases-loop-down l = undecided l.t.atoms l.u
