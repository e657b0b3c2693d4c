-- `part` meets its contract: each arm is the part of its number.
use mathlib.Core.Bool.{false, true}
use mathlib.Core.Path.{◌∙◌, ap}
use borrow.Author.Tests.{ne_eqb}
use Rattle.rules.specs.Sum.{pick}
use Rattle.rules.specs.Rule.{kind_number, part_of}
use Rattle.std.specs.Prelude.{Some}
use Rattle.std.proofs.Common.{rules}
use Rattle.table.specs.Inner.Words.{seg_column}
use Rattle.table.proofs.parts.Laws.{so_many, item_at, so_many_pairs}
use Rattle.table.proofs.parts.part.Goals as goal

pub returns-in-0 : goal.returns-in-0
unfolding part_of pick
returns-in-0 c =
    rw c.in-0.is
    (ap Some (c.number.ensures ∙ ap kind_number c.kind_at.ensures))

pub returns-in-1 : goal.returns-in-1
unfolding part_of pick
returns-in-1 c =
    rw c.in-1.is
    (ap Some c.need_at.ensures)

pub returns-in-2 : goal.returns-in-2
unfolding part_of pick
returns-in-2 c =
    rw c.in-2.is
    (so_many (λ l. l.atom) _ _ _ _ _ _ c.heads_at-heads.ensures c.positives_at-positives.ensures c.count.ensures)

pub returns-in-3 : goal.returns-in-3
unfolding part_of pick seg_column
returns-in-3 c =
    rw c.in-3.is
    (item_at false _ _ _ _ _ _ _ _ c.heads_at-heads.ensures c.positives_at-positives.ensures c.place.ensures (λ x y q. search rules) c.map.ensures.cases)

pub returns-in-4 : goal.returns-in-4
unfolding part_of pick
returns-in-4 c =
    rw c.in-4.is
    (so_many_pairs _ _ _ _ _ _ c.positives_at-positives.ensures c.negatives_at-negatives.ensures c.count-in-4.ensures)

pub returns-in-5 : goal.returns-in-5
unfolding part_of pick seg_column
returns-in-5 c =
    rw c.in-5.is
    (item_at false _ _ _ _ _ _ _ _ c.positives_at-positives.ensures c.negatives_at-negatives.ensures c.place-in-5.ensures (λ x y q. search rules) c.map-in-5.ensures.cases)

pub returns-in-6 : goal.returns-in-6
unfolding part_of pick seg_column
returns-in-6 c =
    rw c.in-6.is
    (item_at true _ _ _ _ _ _ _ _ c.positives_at-positives.ensures c.negatives_at-negatives.ensures c.place-in-6.ensures (λ x y q. search rules) c.map-in-6.ensures.cases)

pub returns-in-7 : goal.returns-in-7
unfolding part_of pick
returns-in-7 c =
    rw c.in-7.is
    (so_many_pairs _ _ _ _ _ _ c.negatives_at-negatives.ensures c.end_at-end.ensures c.count-in-7.ensures)

pub returns-in-8 : goal.returns-in-8
unfolding part_of pick seg_column
returns-in-8 c =
    rw c.in-8.is
    (item_at false _ _ _ _ _ _ _ _ c.negatives_at-negatives.ensures c.end_at-end.ensures c.place-in-8.ensures (λ x y q. search rules) c.map-in-8.ensures.cases)

pub returns-in-9 : goal.returns-in-9
unfolding part_of pick seg_column
returns-in-9 c =
    rw c.in-9.is
    (item_at true _ _ _ _ _ _ _ _ c.negatives_at-negatives.ensures c.end_at-end.ensures c.place-in-9.ensures (λ x y q. search rules) c.map-in-9.ensures.cases)

pub returns-in_default : goal.returns-in_default
unfolding part_of pick
returns-in_default c = search (ne_eqb)
