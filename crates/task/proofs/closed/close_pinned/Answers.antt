-- `close_pinned` meets its contract: the pin is held, and then the map closed.
use Rattle.weigh.proofs.Steps.{clashed}
use Rattle.task.proofs.hold.Laws.{takes_as}
use Rattle.task.proofs.closed.Laws.{held_closed, held_none}
use Rattle.task.proofs.closed.close_pinned.Goals as goal

pub returns-in_err-hold_atom : goal.returns-in_err-hold_atom
returns-in_err-hold_atom c =
    rw (clashed _ c.from_residual.ensures.0) (held_none _ _ _ _ (takes_as c.number.ensures c.in_err-hold_atom.ensures))

pub returns : goal.returns
returns c = held_closed _ _ _ (takes_as c.number.ensures c.in_ok-hold_atom.ensures) _ c.close.ensures
