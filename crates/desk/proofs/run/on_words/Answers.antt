-- `on_words` meets its contract: the sheet is decoded into the table, and the row of the rule that is asked for is one of its rows.
use Prim.Native.Nat.{ℕ, ◌≤◌}
use mathlib.Core.Path.{sym, ap, subst}
use Rattle.std.proofs.Common.{List, Bor}
use native.Mathlib.Omega.{arith}
use Rattle.rules.specs.Limits.{atoms_most, rules_most, bytes_most}
use Rattle.sheet.proofs.sheet.Ran.{sheet_ran}
use Rattle.table.specs.Inner.Words.{pair_width}
use Rattle.decode.specs.Inner.Decode.{table_words}
use Rattle.desk.proofs.run.Laws.{words_ready, row_there, stands}
use Rattle.desk.proofs.run.on_words.Goals as goal

pub whole_as_slice-decode : goal.whole_as_slice-decode
unfolding table_words pair_width bytes_most
whole_as_slice-decode g c = omega (arith, c.requires.small)

pub decode-done-requires : goal.decode-done-requires
decode-done-requires g c = words_ready c.requires.accepted c.requires.room

pub shared_whole_as_slice-new : goal.shared_whole_as_slice-new
unfolding table_words pair_width bytes_most
shared_whole_as_slice-new g c = omega (arith, c.requires.small)

pub overflow_cast-sheet : goal.overflow_cast-sheet
unfolding atoms_most
overflow_cast-sheet g c = omega (arith, c.decode-done.ensures.laid.few_atoms)

pub overflow_cast-done : goal.overflow_cast-done
unfolding rules_most
overflow_cast-done g c = omega (arith, c.decode-done.ensures.laid.few_rules)

pub overflow_cast-done-2 : goal.overflow_cast-done-2
unfolding rules_most
overflow_cast-done-2 g c =
    let ran = sheet_ran c.args.s.now c.args.sheet c.requires.accepted in
    omega (arith, c.decode-done.ensures.row_most, ran.count, ran.well_formed.count)

pub row-requires : goal.row-requires
row-requires g c = subst (λ (x : ℕ). c.decode-done.result.row ≤ x) (sym c.new-table.ensures.rules) (row_there c.decode-done.ensures c.requires.asked)

pub returns : goal.returns
returns g c =
    let table = c.new-table.ensures in
    let row = c.row.ensures in
    let words = λ (b : Bor (List ℕ)). b.now in (
      c.new-table.result,
      c.row.result,
      stands c.decode-done.ensures (ap words table.lent) table.atoms table.rules (ap words row.lent) row.atoms row.at,
      c.work.ensures,
    )
