-- `test` meets its contract: its gate, and whether the map with the compute lists is closed as it stands.
use mathlib.Core.Path.{sym}
use Rattle.std.proofs.Common.{rules}
use Rattle.gate.proofs.Calls.{test_goes}
use Rattle.task.proofs.closed.Laws.{whole_map}
use Rattle.desk.proofs.calls.Laws.{tests, on_map}
use Rattle.desk.proofs.calls.test.Goals as goal

pub on_table-closed-requires-clause-accepted : goal.on_table-closed-requires-clause-accepted
on_table-closed-requires-clause-accepted c = (test_goes _ _ (sym c.in_ok-sheet.ensures)).0.accepted

pub on_table-closed-requires-clause-ready : goal.on_table-closed-requires-clause-ready
on_table-closed-requires-clause-ready c t row on =
    let goes = test_goes _ _ (sym c.in_ok-sheet.ensures) in
    on_map on (whole_map goes.0.room goes.1)

pub returns : goal.returns
returns c =
    let (t, row, on, found) = c.on_table-closed.ensures in
    tests on _ (sym c.in_ok-sheet.ensures) (search rules) c.is_some.ensures
