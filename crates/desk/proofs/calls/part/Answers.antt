-- `part` meets its contract: its gate, and the row of its rule read.
use Prim.Native.Nat.{ℕ, ◌-◌}
use mathlib.Core.Path.{◌≡◌, ap}
use Rattle.std.proofs.Common.{rules}
use Rattle.std.specs.Prelude.{Err}
use Rattle.gate.proofs.Tests.{beside_goes, beside_stops}
use Rattle.gate.proofs.Calls.{part_goes}
use Rattle.desk.proofs.calls.Laws.{parts, parts_refused, asked_place}
use Rattle.desk.proofs.calls.part.Goals as goal

pub returns-in_err-sheet : goal.returns-in_err-sheet
returns-in_err-sheet c =
    let
    stopped : c.from_residual.result ≡ Err c.in_err-sheet.field-0.0
    = search rules
    in
    rw stopped (parts_refused _ _ _ _ _ (beside_stops _ _ c.in_err-sheet.ensures))

pub overflow_sub-place : goal.overflow_sub-place
overflow_sub-place c =
    let (goes, same) = beside_goes _ _ c.in_ok-sheet.ensures in
    (asked_place same c.number-place.ensures (part_goes c.args.s.now c.args.rule goes).0).1

pub on_table-requires-clause-accepted : goal.on_table-requires-clause-accepted
on_table-requires-clause-accepted c =
    (part_goes c.args.s.now c.args.rule (beside_goes _ _ c.in_ok-sheet.ensures).0).1

pub on_table-requires-clause-asked : goal.on_table-requires-clause-asked
on_table-requires-clause-asked c =
    let (goes, same) = beside_goes _ _ c.in_ok-sheet.ensures in
    (asked_place same c.number-place.ensures (part_goes c.args.s.now c.args.rule goes).0).2

pub returns : goal.returns
returns c =
    let (t, row, on, found) = c.on_table.ensures in
    let (goes, same) = beside_goes _ _ c.in_ok-sheet.ensures in
    let place = (asked_place same c.number-place.ensures (part_goes c.args.s.now c.args.rule goes).0).0 in
    parts on (ap (λ (j : ℕ). j - 1) place) goes (search rules)
