-- `forcing::ground::ground`: each way out is a case of what a rule gives from U.
use Rattle.forcing.proofs.Groundings.{ground_give}
use Rattle.forcing.proofs.ground.ground.Goals as goal

pub returns-then-lacks : goal.returns-then-lacks
returns-then-lacks c =
    let a = c.args in
    let row = a.row.now in
    ground_give row.code.now row.atoms row.at a.m.now a.u.now row.stands c.requires.space _ _ c.need.ensures
    c.weigh_rule-most.ensures c.if-most-need.false _ _ c.ground_heads.ensures
