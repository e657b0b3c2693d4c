-- `take_number` meets its contract. A number of one byte is the one that is read there. Of a longer one the groups from a byte on, counted
-- by their scale, with the sum of those before, are the number: so at the second byte, the third and the fourth.
use Prim.Native.Nat.{◌+◌, ◌*◌, ◌-◌, ◌%◌, ◌≤◌, ◌<◌}
use mathlib.Core.Path.{◌≡◌, ◌∙◌, sym}
use mathlib.Core.Logic.{⊎_elim}
use native.Mathlib.Omega.{arith}
use Rattle.rules.proofs.Tests.{below?}
use Rattle.numbers.specs.Number.{taken_at}
use Rattle.numbers.proofs.number.Laws.{taken, taken_start, taken_started, taken_ended, taken_last, taken_on, taken_spent}
use Rattle.numbers.proofs.number.Taken.{taken_read}
use Rattle.numbers.proofs.short.Laws.{byte_read}
use Rattle.numbers.proofs.number.take_number.Goals as goal
use Rattle.numbers.proofs.number.take_number.Goals.{Else-above-lt128, Else-group-lt128, Else-low-lt128}

pub returns-then-s-first : goal.returns-then-s-first
returns-then-s-first c = c.new.ensures ∙ taken_ended _ 0 _ _ 0 1 (omega arith) c.if-s-first.true ∙ taken_start _ _

pub returns-then-low-lt128 : goal.returns-then-low-lt128
returns-then-low-lt128 c =
    c.new-then-low-lt128.ensures
    ∙ sym
    (taken_read _ _ _
    (byte_read _ _ c.from-low.result c.if-s-first.false c.from-low.ensures c.if-low-lt128.true))

second :
    (c : Else-low-lt128)
    → taken c.args.s.now 1 c.args.first (c.args.first + 1) (c.from-low.result - 128) 128
    ≡ taken_at c.args.s.now c.args.first
second c =
    taken_started _ _ c.from-low.result c.if-s-first.false c.from-low.ensures c.if-low-lt128.false (omega (arith, c.from-low.ensures, c.type_inv.s c.args.first))

pub returns-then-s-second : goal.returns-then-s-second
returns-then-s-second c = c.new-then-s-second.ensures ∙ taken_ended _ 1 _ _ _ 128 (omega arith) c.if-s-second.true ∙ second (goal.at.returns-then-s-second c).Else-low-lt128

pub returns-then-group-lt128 : goal.returns-then-group-lt128
returns-then-group-lt128 c =
    c.new-then-group-lt128.ensures
    ∙ taken_last _ 1 _ _ _ 128 (omega arith) c.if-s-second.false c.from-group.result c.from-group.ensures c.if-group-lt128.true
    ∙ second (goal.at.returns-then-group-lt128 c).Else-low-lt128

third :
    (c : Else-group-lt128)
    → taken c.args.s.now 1 c.args.first (c.args.first + 1) (c.from-low.result - 128) 128 ≡ taken_at c.args.s.now c.args.first
    → taken c.args.s.now 2 c.args.first (c.args.first + 1 + 1)
    (c.from-low.result - 128 + c.from-group.result % 128 * 128)
    (128 * 128)
    ≡ taken_at c.args.s.now c.args.first
third c before =
    taken_on _ 1 _ _ _ 128 before (omega arith) c.if-s-second.false c.from-group.result c.from-group.ensures c.if-group-lt128.false

pub returns-then-s-third : goal.returns-then-s-third
returns-then-s-third c = c.new-then-s-third.ensures ∙ taken_ended _ 2 _ _ _ (128 * 128) (omega arith) c.if-s-third.true ∙ third (goal.at.returns-then-s-third c).Else-group-lt128 (second (goal.at.returns-then-s-third c).Else-low-lt128)

pub returns-then-above-lt128 : goal.returns-then-above-lt128
returns-then-above-lt128 c =
    c.new-then-above-lt128.ensures
    ∙ taken_last _ 2 _ _ _ (128 * 128) (omega arith) c.if-s-third.false c.from-above.result c.from-above.ensures c.if-above-lt128.true
    ∙ third (goal.at.returns-then-above-lt128 c).Else-group-lt128 (second (goal.at.returns-then-above-lt128 c).Else-low-lt128)

fourth :
    (c : Else-above-lt128)
    → taken c.args.s.now 2 c.args.first (c.args.first + 1 + 1) (c.from-low.result - 128 + c.from-group.result % 128 * 128) (128 * 128)
    ≡ taken_at c.args.s.now c.args.first
    → taken c.args.s.now 3 c.args.first (c.args.first + 1 + 1 + 1)
    (c.from-low.result - 128 + c.from-group.result % 128 * 128 + c.from-above.result % 128 * (128 * 128))
    (128 * 128 * 128)
    ≡ taken_at c.args.s.now c.args.first
fourth c before =
    taken_on _ 2 _ _ _ (128 * 128) before (omega arith) c.if-s-third.false c.from-above.result c.from-above.ensures
    c.if-above-lt128.false

pub returns-then-s-fourth : goal.returns-then-s-fourth
returns-then-s-fourth c = c.new-then-s-fourth.ensures ∙ taken_ended _ 3 _ _ _ (128 * 128 * 128) (omega arith) c.if-s-fourth.true ∙ fourth (goal.at.returns-then-s-fourth c).Else-above-lt128 (third (goal.at.returns-then-s-fourth c).Else-group-lt128 (second (goal.at.returns-then-s-fourth c).Else-low-lt128))

pub returns : goal.returns
returns c =
    let g = c.from-top in
    c.new-2.ensures
    ∙ ⊎_elim
    (λ (b : g.result < 128).
    taken_last _ 3 _ _ _ (128 * 128 * 128) (omega arith) c.if-s-fourth.false g.result g.ensures b ∙ fourth (goal.at.returns c).Else-above-lt128 (third (goal.at.returns c).Else-group-lt128 (second (goal.at.returns c).Else-low-lt128)))
    (λ (b : 128 ≤ g.result).
    taken_spent _ 4 _ _ _ (128 * 128 * 128 * 128) (omega arith)
    ∙ taken_on _ 3 _ _ _ (128 * 128 * 128) (fourth (goal.at.returns c).Else-above-lt128 (third (goal.at.returns c).Else-group-lt128 (second (goal.at.returns c).Else-low-lt128))) (omega arith) c.if-s-fourth.false g.result g.ensures b)
    (below? g.result 128)
