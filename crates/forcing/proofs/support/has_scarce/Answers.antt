-- `forcing::support::has_scarce`: no head before the present one is so.
use native.Mathlib.Omega.{arith}
use Rattle.rules.specs.Map.{side}
use Rattle.forcing.proofs.Backing.{scarce_here, scarce_nowhere}
use Rattle.forcing.proofs.support.has_scarce.Goals as goal

pub returns-then-is_scarce : goal.returns-then-is_scarce
returns-then-is_scarce c =
    let a = c.args in
    let row = a.row.now in
    scarce_here row.code.now row.atoms row.at (side row.atoms a.m.now) a.counts.now a.least c.loop-j.j _
    (omega (arith, c.loop-j.auto.j, c.heads-j.ensures)) (omega (arith, c.loop-j-test.true, c.positives-j-end.ensures))
    c.if-is_scarce.true c.is_scarce.ensures

pub returns : goal.returns
returns c =
    let a = c.args in
    let row = a.row.now in
    scarce_nowhere row.code.now row.atoms row.at (side row.atoms a.m.now) a.counts.now a.least c.loop-j.j
    (omega (arith, c.loop-j-test.false, c.positives-j-end.ensures)) c.loop-j.invariant
