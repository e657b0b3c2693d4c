-- `forcing::support::has_scarce`: no head before the present one is so.
use Rattle.rules.specs.Map.{side}
use Rattle.forcing.proofs.HeadScans.{Sofar}
use Rattle.forcing.proofs.Backing.{Ample}
use Rattle.forcing.proofs.support.has_scarce.Given as goal

abbrev pub invariant-loop-j : goal.invariant-loop-j
invariant-loop-j l =
    Sofar l.row.code.now l.row.at (Ample l.row.code.now l.row.atoms l.row.at (side l.row.atoms l.m) l.counts l.least) l.j
