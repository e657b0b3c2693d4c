-- `weigh::weigh`: what is summed and what the rest weighs is what the whole run weighs, at each turn. So no sum is more
-- than the whole, which fits.
use native.Mathlib.Omega.{arith}
use Rattle.rules.specs.Map.{side}
use Rattle.rules.specs.Limits.{atoms_most, weight_most}
use Rattle.table.proofs.Words.{gain_next, gain_done, seg_light}
use Rattle.weigh.specs.Inner.Weigh.{sees}
use Rattle.weigh.proofs.weigh.Goals as goal

pub overflow_add-sum : goal.overflow_add-sum
unfolding atoms_most weight_most
overflow_add-sum c =
    let a = c.args in
    let p = sees a.seen (side a.row.now.atoms a.m.now) in
    omega (
      arith,
      c.weigh_pair-sum.ensures,
      gain_next p a.row.now.code.now c.loop-j.j a.to c.loop-j-test.true,
      seg_light a.row.now.code.now a.row.now.atoms p a.from a.to c.requires.seg,
    )

pub loop-j-preserved : goal.loop-j-preserved
loop-j-preserved c =
    let a = c.args in
    let p = sees a.seen (side a.row.now.atoms a.m.now) in
    omega (arith, c.weigh_pair-sum.ensures, gain_next p a.row.now.code.now c.loop-j.j a.to c.loop-j-test.true)

pub returns : goal.returns
returns c =
    let a = c.args in
    let p = sees a.seen (side a.row.now.atoms a.m.now) in
    omega (arith, c.loop-j.invariant, gain_done p a.row.now.code.now c.loop-j.j a.to c.loop-j-test.false)
