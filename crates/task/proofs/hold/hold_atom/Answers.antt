-- `hold_atom` meets its contract: what `put` did to the one atom says which maps are above the result.
use mathlib.Core.Path.{refl}
use Rattle.weigh.proofs.Steps.{clashed}
use Rattle.task.proofs.hold.Laws.{put_held}
use Rattle.task.proofs.hold.hold_atom.Goals as goal

pub returns-in_err-put : goal.returns-in_err-put
returns-in_err-put c =
    rw (clashed _ c.from_residual.ensures.0)
    (put_held c.requires.map c.requires.atom c.side_for.ensures c.in_err-put.ensures refl)

pub returns : goal.returns
returns c = put_held c.requires.map c.requires.atom c.side_for.ensures c.in_ok-put.ensures refl
