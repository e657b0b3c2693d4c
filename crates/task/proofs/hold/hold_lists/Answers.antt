-- `hold_lists` meets its contract: the pairs of the last row are the compute lists, one after another.
use mathlib.Core.Path.{ap, refl}
use mathlib.Core.Bool.{true, false}
use mathlib.Core.List.{List}
use Rattle.std.proofs.Common.{ℕ, Bor}
use Rattle.weigh.proofs.Steps.{clashed}
use Rattle.weigh.proofs.Weights.{seg_cast}
use Rattle.task.proofs.hold.Laws.{lists_held, lists_clash}
use Rattle.task.proofs.hold.hold_lists.Goals as goal

pub hold_pairs-requires-clause-run : goal.hold_pairs-requires-clause-run
hold_pairs-requires-clause-run c = seg_cast _ _ c.positives.ensures c.negatives-middle.ensures (c.row-lists.result.stands.literals true)

pub returns-in_err-hold_pairs : goal.returns-in_err-hold_pairs
returns-in_err-hold_pairs c =
    let row = c.row-lists.ensures in
    rw (clashed _ c.from_residual.ensures.0)
    (lists_clash (ap (λ (b : Bor (List ℕ)). b.now) row.lent) row.atoms row.at c.positives.ensures c.negatives-middle.ensures refl _
    c.in_err-hold_pairs.ensures)

pub hold_pairs-requires-2-clause-run : goal.hold_pairs-requires-2-clause-run
hold_pairs-requires-2-clause-run c = seg_cast _ _ c.negatives-middle.ensures c.end.ensures (c.row-lists.result.stands.literals false)

pub returns : goal.returns
returns c =
    let row = c.row-lists.ensures in
    lists_held (ap (λ (b : Bor (List ℕ)). b.now) row.lent) row.atoms row.at c.positives.ensures c.negatives-middle.ensures c.end.ensures _
    c.in_ok-hold_pairs.ensures c.hold_pairs-2.ensures
