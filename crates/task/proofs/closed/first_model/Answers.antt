-- `first_model` meets its contract: the first model above the opened map is the sheet's first.
use Rattle.task.proofs.closed.Laws.{opened_stands, searched, not_searched}
use Rattle.task.proofs.closed.first_model.Goals as goal

pub returns-in_err-opened : goal.returns-in_err-opened
returns-in_err-opened c = rw c.from_residual.ensures (not_searched _ _ _ c.args.t.now.laid c.in_err-opened.ensures)

pub choose-requires : goal.choose-requires
choose-requires c = opened_stands _ _ _ c.args.t.now.laid _ c.in_ok-opened.ensures

pub returns : goal.returns
returns c = searched _ _ _ c.args.t.now.laid _ c.in_ok-opened.ensures _ c.choose.ensures
