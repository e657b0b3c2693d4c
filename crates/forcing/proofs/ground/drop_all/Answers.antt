-- `forcing::ground::drop_all`: the atoms before the present one that are not in U are out, or something was added.
use Prim.Native.Nat.{◌+◌}
use native.Mathlib.Omega.{arith}
use Rattle.std.specs.Prelude.{Ok, Err}
use Rattle.weigh.proofs.Steps.{clashed}
use Rattle.forcing.proofs.Founding.{drop_more, drop_clash}
use Rattle.forcing.proofs.ground.drop_all.Goals as goal

pub returns-in_err-grew : goal.returns-in_err-grew
returns-in_err-grew c =
    let a = c.args in
    rw (clashed _ c.from_residual.ensures.0)
    (drop_clash a.n a.u.now a.m.now c.requires.map (c.loop-a.a + 1 + 1) (a.n + 1) _
    (drop_more a.n a.u.now a.m.now c.requires.map (c.loop-a.a + 1) _ _ c.loop-a.grew (Err (record {})) (omega arith)
    (omega (arith, c.loop-a-test.true)) c.loop-a.invariant c.in_err-grew.ensures))

pub loop-a-preserved : goal.loop-a-preserved
loop-a-preserved c =
    let a = c.args in
    drop_more a.n a.u.now a.m.now c.requires.map (c.loop-a.a + 1) _ _ c.loop-a.grew (Ok c.in_ok-grew.field-0) (omega arith)
    (omega (arith, c.loop-a-test.true)) c.loop-a.invariant c.in_ok-grew.ensures
