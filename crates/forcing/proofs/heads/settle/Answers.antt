-- `forcing::heads::settle`: a choice rule and a head that is in leave nothing to do, and any other rule is settled by its head.
use mathlib.Core.Path.{◌∙◌, ap}
use Rattle.table.specs.Inner.Words.{pair_atom}
use Rattle.forcing.proofs.Settling.{must_give, settle_in}
use Rattle.forcing.proofs.heads.settle.Goals as goal

pub returns-then-is_in : goal.returns-then-is_in
returns-then-is_in c =
    let a = c.args in
    let row = a.row.now in
    settle_in row.code.now row.atoms row.at a.m.now row.stands (must_give _ _ c.is_choice.ensures c.if-is_choice.false) _ _
    (c.atom-head.ensures ∙ ap (pair_atom row.code.now) c.heads.ensures) c.side_of-x.ensures c.if-is_in.true c.requires
