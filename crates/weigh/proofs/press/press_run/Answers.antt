-- `weigh::press::press_run`: the pairs before the present one are pressed.
use Rattle.weigh.proofs.Steps.{clashed}
use Rattle.weigh.proofs.Presses.{run_more, run_clash}
use Rattle.weigh.proofs.press.press_run.Goals as goal

pub returns-in_err-grew : goal.returns-in_err-grew
returns-in_err-grew c =
    let a = c.args in
    rw (clashed _ c.from_residual.ensures.0)
    (run_clash a.row.now.code.now a.row.now.atoms a.from a.to a.least a.v a.m.now c.requires.proper c.loop-j.j _ _ c.loop-j.grew
    c.loop-j.auto.j c.loop-j-test.true c.loop-j.invariant c.in_err-grew.ensures)

pub loop-j-preserved : goal.loop-j-preserved
loop-j-preserved c =
    let a = c.args in
    run_more a.row.now.code.now a.row.now.atoms a.from a.to a.least a.v a.m.now c.requires.proper c.loop-j.j _ _ c.loop-j.grew _
    c.loop-j.auto.j c.loop-j-test.true c.loop-j.invariant c.in_ok-grew.ensures
