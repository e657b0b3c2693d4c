-- `solve` meets its contract: its gate, its search, and the model handed over.
use mathlib.Core.Path.{sym}
use native.Mathlib.Omega.{arith}
use Rattle.std.proofs.Common.{rules}
use Rattle.rules.specs.Limits.{atoms_most}
use Rattle.gate.proofs.Calls.{room_goes}
use Rattle.desk.proofs.calls.Laws.{few_atoms, solves_model, solves_none}
use Rattle.desk.proofs.calls.solve.Goals as goal

pub on_table-requires-clause-accepted : goal.on_table-requires-clause-accepted
on_table-requires-clause-accepted c = (room_goes _ _ (sym c.in_ok-sheet.ensures)).accepted

pub copy-requires-clause-from : goal.copy-requires-clause-from
unfolding atoms_most
copy-requires-clause-from c = omega (arith, few_atoms _ _ (room_goes _ _ (sym c.in_ok-sheet.ensures)).accepted)

pub copy-requires-clause-into : goal.copy-requires-clause-into
copy-requires-clause-into c = (room_goes _ _ (sym c.in_ok-sheet.ensures)).room

pub write_threes-requires : goal.write_threes-requires
write_threes-requires c = (room_goes _ _ (sym c.in_ok-sheet.ensures)).room

pub returns-in-Some : goal.returns-in-Some
unfolding atoms_most
returns-in-Some c =
    let (t, row, on, found) = c.on_table.ensures in
    solves_model on (sym c.in_ok-sheet.ensures) (search rules) c.in-Some.is
    (omega (arith, few_atoms _ _ (room_goes _ _ (sym c.in_ok-sheet.ensures)).accepted)) c.copy.ensures

pub returns-in-None : goal.returns-in-None
returns-in-None c =
    let (t, row, on, found) = c.on_table.ensures in
    solves_none on (sym c.in_ok-sheet.ensures) (search rules) c.in-None.is c.write_threes.ensures
