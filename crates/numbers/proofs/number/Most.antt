-- A number of at most k groups is below 128 to the k, since each group is below 128; so a number that was read is at most the largest.
use Prim.Native.Nat.{ℕ, zero, suc, ◌+◌, ◌*◌, ◌^◌, ◌%◌, ◌≤◌, ◌<◌}
use mathlib.Core.Path.{◌≡◌, ap, ◌∙◌}
use mathlib.Core.Bool.{false, ◌&&◌}
use mathlib.Core.List.{List}
use native.Mathlib.Omega.{arith}
use native.Mathlib.Nat.{pow-suc, one-le-pow}
use lib.ListN.{length, get_or}
use lib.Dec.{ltb, eqb, lit<}
use borrow.Author.Tests.{ltb-false}
use Rattle.std.specs.Prelude.{Result, Ok, Err}
use Rattle.rules.specs.Limits.{number_most}
use Rattle.numbers.specs.Answer.{span}
use Rattle.numbers.specs.Number.{groups_from, number_at, within_at}
use Rattle.numbers.specs.declared.Span.{Span}
use Rattle.numbers.specs.declared.Refusal.{Refusal}
use Rattle.numbers.proofs.Answer.{from_read, from_no, not_ok, same_ok}
use Rattle.numbers.proofs.number.Look.{Look, at_end, left_out, final, further, look}

-- what the groups from a place on can be, where they are a number's: one last group, or one more and the rest
pub data Groups (s : List ℕ) (left first at : ℕ) (p : Span) : Type 0 where
  last :
      at < length s → get_or s at 0 < 128 → (ltb first at && eqb (get_or s at 0) 0) ≡ false → span (get_or s at 0) first (at + 1) ≡ p
      → Groups s left first at p
  more :
      at < length s → 128 ≤ get_or s at 0 → (high : Span) → groups_from left s first (at + 1) ≡ Ok high
      → span (get_or s at 0 % 128 + 128 * high.value) high.first high.next ≡ p → Groups s left first at p

pub groups : (s : List ℕ) (left first at : ℕ) (p : Span) → groups_from (suc left) s first at ≡ Ok p → Groups s left first at p
groups s left first at p e = by (groups_from (suc left) s first at) (look s left first at) e
  where
    by : (a : Result Span Refusal) → Look s left first at a → a ≡ Ok p → Groups s left first at p
    by a (at_end l) z = absurd (not_ok _ z)
    by a (left_out l m o) z = absurd (not_ok _ z)
    by a (final l b n) z = last l b n (same_ok z)
    by a (further l b) z = let g = from_read Err _ (groups_from left s first (at + 1)) not_ok z in more l b g.0 g.1 (same_ok g.2)

pub groups_most : (s : List ℕ) (left first at : ℕ) (p : Span) → groups_from left s first at ≡ Ok p → p.value < 128 ^ left
unfolding groups_from
groups_most s zero first at p e = absurd (not_ok _ e)
groups_most s (suc left) first at p e = rw pow-suc (by (groups s left first at p e) (λ high z. groups_most s left first (at + 1) high z))
  where
    by :
        Groups s left first at p → ((high : Span) → groups_from left s first (at + 1) ≡ Ok high → high.value < 128 ^ left)
        → p.value < 128 ^ left * 128
    by (last l b z w) below =
        let v : get_or s at 0 ≡ p.value = ap (λ (q : Span). q.value) w in
        let o : 1 ≤ 128 ^ left = one-le-pow left 128 (lit< tt) in
        omega arith
    by (more l b high z w) below =
        let v : get_or s at 0 % 128 + 128 * high.value ≡ p.value = ap (λ (q : Span). q.value) w in
        let h : high.value < 128 ^ left = below high z in
        omega arith

pub number_most_law : (s : List ℕ) (at : ℕ) (p : Span) → number_at s at ≡ Ok p → p.value ≤ number_most
unfolding number_at number_most
number_most_law s at p e = omega (arith, groups_most s 4 at at p e)

-- a number takes a byte at least, and its bytes are all there
groups_far :
    (s : List ℕ) (left first at : ℕ) (p : Span) → groups_from left s first at ≡ Ok p → (at < p.next) × (p.next ≤ length s)
unfolding groups_from
groups_far s zero first at p e = absurd (not_ok _ e)
groups_far s (suc left) first at p e = by (groups s left first at p e) (λ high z. groups_far s left first (at + 1) high z)
  where
    by :
        Groups s left first at p
        → ((high : Span) → groups_from left s first (at + 1) ≡ Ok high → (at + 1 < high.next) × (high.next ≤ length s))
        → (at < p.next) × (p.next ≤ length s)
    by (last l b z w) far =
        let v : at + 1 ≡ p.next = ap (λ (q : Span). q.next) w in
        (omega arith, omega arith)
    by (more l b high z w) far =
        let v : high.next ≡ p.next = ap (λ (q : Span). q.next) w in
        let f = far high z in
        (omega arith, omega arith)

pub number_far : (s : List ℕ) (at : ℕ) (p : Span) → number_at s at ≡ Ok p → (at < p.next) × (p.next ≤ length s)
unfolding number_at
number_far s at p e = groups_far s 4 at at p e

-- a number that was read within limits
pub record Limited (s : List ℕ) (least most at : ℕ) (p : Span) : Type 0 where
  pub number : number_at s at ≡ Ok p
  pub low : least ≤ p.value
  pub high : p.value ≤ most

pub limited : (s : List ℕ) (least most at : ℕ) (p : Span) → within_at s least most at ≡ Ok p → Limited s least most at p
unfolding within_at
limited s least most at p e =
    let g = from_read Err _ (number_at s at) not_ok e in
    let l = from_no (ltb g.0.value least) _ _ (not_ok _) g.2 in
    let m = from_no (ltb most g.0.value) _ _ (not_ok _) l.1 in
    let v : g.0 ≡ p = same_ok m.1 in
    let w : g.0.value ≡ p.value = ap (λ (q : Span). q.value) v in
    record {
      number = g.1 ∙ ap (λ (q : Span). Ok q) v;
      low = omega (arith, ltb-false g.0.value least l.0);
      high = omega (arith, ltb-false most g.0.value m.0);
    }
