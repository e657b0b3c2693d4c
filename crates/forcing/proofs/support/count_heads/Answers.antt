-- `forcing::support::count_heads`: the heads before the present one are counted.
use native.Mathlib.Omega.{arith}
use Rattle.rules.specs.Map.{side}
use Rattle.forcing.proofs.Counting.{heading_more, heading_end}
use Rattle.forcing.proofs.support.count_heads.Goals as goal

pub loop-j-preserved : goal.loop-j-preserved
loop-j-preserved c =
    let a = c.args in
    let row = a.row.now in
    heading_more row.code.now row.atoms row.at row.stands (side row.atoms a.m.now) a.counts.now c.loop-j.j _ _
    (omega (arith, c.loop-j-test.true, c.positives-j-end.ensures)) c.count_pair.auto.counts c.loop-j.invariant c.count_pair.ensures

pub returns : goal.returns
returns c =
    let a = c.args in
    let row = a.row.now in
    heading_end row.code.now row.atoms row.at row.stands (side row.atoms a.m.now) a.counts.now c.loop-j.j _
    (omega (arith, c.loop-j-test.false, c.positives-j-end.ensures)) c.loop-j.invariant
