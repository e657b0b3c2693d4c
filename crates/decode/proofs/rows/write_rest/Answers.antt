-- `write_rest` meets its contract. The body is written, and then the row that says where it stands.
use Rattle.decode.proofs.rows.Rule.{row_asks, need_fits, rest_put}
use Rattle.decode.proofs.rows.write_rest.Goals as goal

pub write_row-requires : goal.write_row-requires
write_row-requires c =
    row_asks _ _ _ _ _ _ _ _ c.requires _ (rw c.weighs.ensures at c.write_body-body.ensures) c.need-due.ensures

pub mixed-requires : goal.mixed-requires
mixed-requires c =
    need_fits _ _ _ _ _ _ _ _ c.requires _ (rw c.weighs.ensures at c.write_body-body.ensures) c.need-due.ensures

pub returns : goal.returns
returns c =
    rest_put _ _ _ _ _ _ _ _ c.requires _ (rw c.weighs.ensures at c.write_body-body.ensures) c.need-due.ensures
    c.write_row.ensures
    c.carried.ensures
    c.mixed.ensures
