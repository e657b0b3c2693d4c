-- `pin` meets its contract: its gate, its work, and the answer handed over.
use mathlib.Core.Path.{◌≡◌, ◌∙◌}
use mathlib.Core.List.{[], ◌∷◌}
use Rattle.std.proofs.Common.{rules}
use Rattle.std.specs.Prelude.{Err}
use Rattle.rules.specs.Map.{side, signed, Over}
use Rattle.table.specs.Inner.Rows.{table_sheet}
use Rattle.gate.proofs.Tests.{beside_goes, beside_stops}
use Rattle.gate.proofs.Calls.{pin_goes, handed_on, held_back}
use Rattle.gate.proofs.scan.Maps.{map_fine}
use Rattle.task.specs.Inner.Closed.{ClosedFor}
use Rattle.desk.proofs.calls.Laws.{pins, pins_refused, pins_stay, has_room, on_map, on_atom, pin_asked}
use Rattle.desk.proofs.calls.pin.Goals as goal

pub returns-in_err-sheet : goal.returns-in_err-sheet
returns-in_err-sheet c =
    let
    stopped : c.from_residual.result ≡ Err c.in_err-sheet.field-0.0
    = search rules
    in
    rw stopped (pins_refused _ _ _ _ _ (beside_stops _ _ c.in_err-sheet.ensures))

pub returns-in_default : goal.returns-in_default
returns-in_default c =
    let (goes, same) = beside_goes _ _ c.in_ok-sheet.ensures in
    pins_stay goes (held_back _ _ _ (same ∙ c.in_default.is))

pub on_table-closed-requires-clause-accepted : goal.on_table-closed-requires-clause-accepted
on_table-closed-requires-clause-accepted c =
    let a = c.args in
    (pin_goes a.s.now a.map.now a.atom a.side (beside_goes _ _ c.in_ok-sheet.ensures).0).lent.accepted

pub on_table-closed-requires-clause-ready : goal.on_table-closed-requires-clause-ready
on_table-closed-requires-clause-ready c t row on =
    let a = c.args in
    let (goes, same) = beside_goes _ _ c.in_ok-sheet.ensures in
    let through = pin_goes a.s.now a.map.now a.atom a.side goes in
    let (none, asked) = handed_on _ _ _ (same ∙ c.in-Some.is) in
    let fine = map_fine _ _ through.lent.room through.fine none in
    (on_map on fine, on_atom _ on asked through.atom)

pub hand-requires : goal.hand-requires
hand-requires c =
    let a = c.args in
    let (t, row, on, found) = c.on_table-closed.ensures in
    let
    closed : ClosedFor (table_sheet t.code.now t.atoms t.rules) (Over (side t.atoms a.map.now) (signed c.in-Some.put.inside c.in-Some.put.atom.number ∷ [])) c.on_table-closed.result
    = search rules
    in
    record { lent = (pin_goes a.s.now a.map.now a.atom a.side (beside_goes _ _ c.in_ok-sheet.ensures).0).lent.room; worked = has_room on _ _ closed }

pub returns : goal.returns
returns c =
    let (t, row, on, found) = c.on_table-closed.ensures in
    let (goes, same) = beside_goes _ _ c.in_ok-sheet.ensures in
    let (none, asked) = handed_on _ _ _ (same ∙ c.in-Some.is) in
    pins on _ goes none (pin_asked _ (table_sheet t.code.now t.atoms t.rules) _ _ asked (search rules)) c.hand.ensures
