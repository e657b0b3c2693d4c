-- `forcing::support::back`: each way out is a case of forcing rule 2.
use native.Mathlib.Omega.{arith}
use Rattle.rules.specs.Limits.{atoms_most, weight_most}
use Rattle.rules.specs.Map.{side, isnt}
use Rattle.weigh.proofs.Weights.{value_light}
use Rattle.forcing.proofs.Backing.{back_none, back_press}
use Rattle.forcing.proofs.support.back.Goals as goal

pub overflow_add-most : goal.overflow_add-most
unfolding atoms_most weight_most
overflow_add-most c =
    let row = c.args.row.now in
    let M = side row.atoms c.args.m.now in
    omega (arith, c.reach-most.ensures, value_light row.code.now row.at (isnt 2 M) (isnt 1 M) row.atoms row.stands)

pub returns-then-has_scarce : goal.returns-then-has_scarce
returns-then-has_scarce c =
    let a = c.args in
    let row = a.row.now in
    back_press row.code.now row.atoms row.at a.counts.now a.m.now c.requires.map _ _ c.need-need.ensures c.reach-most.ensures _
    c.if-has_scarce.true c.has_scarce.ensures c.if-most-need.false _ _ c.press_body.ensures

pub returns : goal.returns
returns c =
    let a = c.args in
    let row = a.row.now in
    back_none row.code.now row.atoms row.at a.counts.now a.m.now c.requires.map _ c.if-has_scarce.false c.has_scarce.ensures
