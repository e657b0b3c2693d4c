-- `weigh::press::press_pair`: a pair that weighs less or is decided is left, and any other is put on its side.
use Rattle.weigh.proofs.Presses.{pressed_put}
use Rattle.weigh.proofs.press.press_pair.Goals as goal

pub returns : goal.returns
returns c =
    let a = c.args in
    pressed_put a.row.now.code.now a.row.now.atoms a.j a.least a.v a.m.now
    c.requires _ _ _ _ _
    c.weight-weight.ensures
    c.if-weight-least.false
    c.atom-a.ensures
    c.side_of-x.ensures c.if-is_decided.false
    c.put.ensures
