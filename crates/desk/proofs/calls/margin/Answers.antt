-- `margin` meets its contract: its gate, and the row of its rule weighed.
use Prim.Native.Nat.{ℕ, ◌-◌}
use mathlib.Core.Path.{◌≡◌, sym, ap, subst}
use Rattle.std.proofs.Common.{rules}
use Rattle.std.specs.Prelude.{Err}
use Rattle.rules.specs.Inner.Bytes.{Room}
use Rattle.gate.proofs.Tests.{beside_goes, beside_stops}
use Rattle.gate.proofs.Calls.{margin_goes}
use Rattle.desk.proofs.calls.Laws.{margins, margins_refused, asked_place}
use Rattle.desk.proofs.calls.margin.Goals as goal

pub returns-in_err-sheet : goal.returns-in_err-sheet
returns-in_err-sheet c =
    let
    stopped : c.from_residual.result ≡ Err c.in_err-sheet.field-0.0
    = search rules
    in
    rw stopped (margins_refused _ _ _ _ (beside_stops _ _ c.in_err-sheet.ensures))

pub overflow_sub-place : goal.overflow_sub-place
overflow_sub-place c =
    let (goes, same) = beside_goes _ _ c.in_ok-sheet.ensures in
    (asked_place same c.number-place.ensures (margin_goes c.args.s.now c.args.map.now c.args.rule goes).0).1

pub on_table-requires-clause-accepted : goal.on_table-requires-clause-accepted
on_table-requires-clause-accepted c =
    (margin_goes c.args.s.now c.args.map.now c.args.rule (beside_goes _ _ c.in_ok-sheet.ensures).0).1.accepted

pub on_table-requires-clause-asked : goal.on_table-requires-clause-asked
on_table-requires-clause-asked c =
    let (goes, same) = beside_goes _ _ c.in_ok-sheet.ensures in
    (asked_place same c.number-place.ensures (margin_goes c.args.s.now c.args.map.now c.args.rule goes).0).2

pub on_table-requires-clause-ready : goal.on_table-requires-clause-ready
on_table-requires-clause-ready c t row on =
    subst (λ (j : ℕ). Room j c.args.map.now) (sym on.row_atoms)
    (margin_goes c.args.s.now c.args.map.now c.args.rule (beside_goes _ _ c.in_ok-sheet.ensures).0).1.room

pub returns : goal.returns
returns c =
    let (t, row, on, found) = c.on_table.ensures in
    let (goes, same) = beside_goes _ _ c.in_ok-sheet.ensures in
    let place = (asked_place same c.number-place.ensures (margin_goes c.args.s.now c.args.map.now c.args.rule goes).0).0 in
    margins on (ap (λ (j : ℕ). j - 1) place) goes (search rules)
