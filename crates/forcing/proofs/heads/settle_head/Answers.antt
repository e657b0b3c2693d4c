-- `forcing::heads::settle_head`: each way out is a case of the forcing rules 1 and 3.
use Rattle.forcing.proofs.Settling.{settle_give, settle_deny, settle_wait}
use Rattle.forcing.proofs.heads.settle_head.Goals as goal

pub returns-then-need-held : goal.returns-then-need-held
returns-then-need-held c =
    let a = c.args in
    let row = a.row.now in
    settle_give row.code.now row.atoms row.at a.m.now row.stands a.head a.x _ _ c.requires c.need-need.ensures c.sure-held.ensures
    c.if-need-held.true _ _ c.put.ensures

pub returns-then-is_out : goal.returns-then-is_out
returns-then-is_out c =
    let a = c.args in
    let row = a.row.now in
    settle_deny row.code.now row.atoms row.at a.m.now row.stands a.head a.x _ _ c.requires c.need-need.ensures c.sure-held.ensures
    c.if-need-held.false c.if-is_out.true _ _ c.press_body.ensures

pub returns : goal.returns
returns c =
    let a = c.args in
    let row = a.row.now in
    settle_wait row.code.now row.atoms row.at a.m.now row.stands a.head a.x _ _ c.requires c.need-need.ensures c.sure-held.ensures
    c.if-need-held.false c.if-is_out.false
