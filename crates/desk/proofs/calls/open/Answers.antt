-- `open` meets its contract: its gate, its work, and the answer handed over.
use mathlib.Core.Path.{sym}
use Rattle.std.proofs.Common.{rules}
use Rattle.rules.specs.Map.{Holding}
use Rattle.rules.specs.Forcing.{computed}
use Rattle.table.specs.Inner.Rows.{table_sheet}
use Rattle.gate.proofs.Calls.{room_goes}
use Rattle.task.specs.Inner.Closed.{ClosedFor}
use Rattle.desk.proofs.calls.Laws.{opens, has_room}
use Rattle.desk.proofs.calls.open.Goals as goal

pub on_table-closed-requires-clause-accepted : goal.on_table-closed-requires-clause-accepted
on_table-closed-requires-clause-accepted c = (room_goes _ _ (sym c.in_ok-sheet.ensures)).accepted

pub hand-requires : goal.hand-requires
hand-requires c =
    let (t, row, on, found) = c.on_table-closed.ensures in
    let
    closed : ClosedFor (table_sheet t.code.now t.atoms t.rules) (Holding (computed (table_sheet t.code.now t.atoms t.rules))) c.on_table-closed.result
    = search rules
    in
    record { lent = (room_goes _ _ (sym c.in_ok-sheet.ensures)).room; worked = has_room on _ _ closed }

pub returns : goal.returns
returns c =
    let (t, row, on, found) = c.on_table-closed.ensures in
    opens on _ (sym c.in_ok-sheet.ensures) (search rules) c.hand.ensures
