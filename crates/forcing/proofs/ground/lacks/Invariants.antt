-- `forcing::ground::lacks`: no head before the present one is missing.
use Rattle.rules.specs.Map.{side}
use Rattle.forcing.specs.Inner.Ground.{Unless}
use Rattle.forcing.proofs.HeadScans.{Sofar}
use Rattle.forcing.proofs.ground.lacks.Given as goal

abbrev pub invariant-loop-j : goal.invariant-loop-j
invariant-loop-j l = Sofar l.row.code.now l.row.at (λ a. Unless (side l.row.atoms l.m) a 2 1 (side l.row.atoms l.u)) l.j
