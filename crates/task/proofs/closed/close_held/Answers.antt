-- `close_held` meets its contract: the compute lists are held, and then the map closed.
use Rattle.weigh.proofs.Steps.{clashed}
use Rattle.task.proofs.closed.Laws.{held_closed, held_none}
use Rattle.task.proofs.closed.close_held.Goals as goal

pub returns-in_err-hold_lists : goal.returns-in_err-hold_lists
returns-in_err-hold_lists c = rw (clashed _ c.from_residual.ensures.0) (held_none _ _ _ _ c.in_err-hold_lists.ensures)

pub returns : goal.returns
returns c = held_closed _ _ _ c.in_ok-hold_lists.ensures _ c.close.ensures
