-- `forcing::ground::ground_heads`: the heads before the present one are in U, unless they are out.
use Prim.Native.Nat.{◌+◌}
use native.Mathlib.Omega.{arith}
use Rattle.std.specs.Prelude.{Ok, Err}
use Rattle.weigh.proofs.Steps.{clashed}
use Rattle.forcing.proofs.Groundings.{heads_more, heads_clash}
use Rattle.forcing.proofs.ground.ground_heads.Goals as goal

pub returns-in_err-grew : goal.returns-in_err-grew
returns-in_err-grew c =
    let a = c.args in
    let row = a.row.now in
    rw (clashed _ c.from_residual.ensures.0)
    (heads_clash row.code.now row.atoms row.at a.m.now a.u.now row.stands c.requires.space (c.loop-j.j + 1) _
    (heads_more row.code.now row.atoms row.at a.m.now a.u.now row.stands c.requires.space c.loop-j.j _ _ _ c.loop-j.grew (Err (record {}))
    (omega (arith, c.loop-j.auto.j, c.heads-j.ensures)) (omega (arith, c.loop-j-test.true, c.positives-j-end.ensures)) c.atom.ensures
    c.loop-j.invariant c.in_err-grew.ensures))

pub loop-j-preserved : goal.loop-j-preserved
loop-j-preserved c =
    let a = c.args in
    let row = a.row.now in
    heads_more row.code.now row.atoms row.at a.m.now a.u.now row.stands c.requires.space c.loop-j.j _ _ _ c.loop-j.grew (Ok c.in_ok-grew.field-0)
    (omega (arith, c.loop-j.auto.j, c.heads-j.ensures)) (omega (arith, c.loop-j-test.true, c.positives-j-end.ensures)) c.atom.ensures
    c.loop-j.invariant c.in_ok-grew.ensures
