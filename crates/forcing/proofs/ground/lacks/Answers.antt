-- `forcing::ground::lacks`: no head before the present one is missing.
use native.Mathlib.Omega.{arith}
use Rattle.forcing.proofs.Groundings.{lacks_none}
use Rattle.forcing.proofs.ground.lacks.Goals as goal

pub returns : goal.returns
returns c =
    let a = c.args in
    lacks_none a.row.now.code.now a.row.now.atoms a.row.now.at a.m.now a.u.now a.row.now.stands c.requires.space c.loop-j.j
    (omega (arith, c.loop-j-test.false, c.positives-j-end.ensures)) c.loop-j.invariant
