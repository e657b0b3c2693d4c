-- Weights are added up one by one: with those that are left the sum is the whole one, from the first weight to the last. No sum of
-- so many numbers is above the largest number for each.
use Prim.Native.Nat.{ℕ, zero, suc, ◌+◌, ◌*◌, ◌-◌, ◌≤◌, ◌<◌, min}
use mathlib.Core.Path.{◌≡◌, sym, ap, ap₂, subst, ◌∙◌}
use mathlib.Core.List.{List}
use native.Mathlib.Omega.{arith}
use native.Mathlib.Nat.{le_trans, mul-le-mul_right}
use lib.ListN.{get_or}
use Rattle.std.specs.Prelude.{Result, Ok, Err}
use Rattle.rules.specs.Limits.{weight_most, number_most}
use Rattle.rules.specs.Sum.{tally}
use Rattle.numbers.specs.Answer.{span, read_then}
use Rattle.numbers.specs.Number.{number_at, taken_at}
use Rattle.numbers.specs.Lists.{numbers_from, numbers_of}
use Rattle.numbers.specs.Inner.Short.{past_bytes}
use Rattle.numbers.specs.declared.Refusal.{Refusal}
use Rattle.numbers.specs.declared.Span.{Span}
use Rattle.numbers.proofs.number.Taken.{taken_read, taken_most}
use Rattle.numbers.proofs.Answer.{from_read, not_ok, same_ok}
use Rattle.numbers.proofs.number.Most.{limited}
use Rattle.numbers.proofs.lists.Most.{run_keeps}
use Rattle.numbers.proofs.lists.Numbers.{numbers_over, numbers_turn}
use Rattle.numbers.proofs.short.Laws.{past_few, past_there, byte_read, none_ahead}
use Rattle.sheet.specs.Body.{weight_at, weights_at}
use Rattle.sheet.specs.Inner.Sums.{sum_of, sum_at, AddedUp, AddedAhead}
use Rattle.sheet.proofs.body.Laws.{weight_ahead}

numbers_sum_most : (s : List ℕ) (count at : ℕ) → sum_of (numbers_from count s at) ≤ count * number_most
unfolding tally numbers_from
numbers_sum_most s zero at = omega arith
numbers_sum_most s (suc left) at = omega (arith, taken_most s at, numbers_sum_most s left (taken_at s at).next)

module _ (s : List ℕ) (before count first : ℕ) where
  pub added_none : AddedUp s before count first (first - first) before first
  added_none =
      let z : count - (first - first) ≡ count = omega arith in
      let m = ap (λ (k : ℕ). sum_of (numbers_from k s first)) z in
      omega (arith, m)

  module _ (passed sum at : ℕ) (a : AddedUp s before count first passed sum at) where
    added_one : passed < count → (p : Span) → number_at s at ≡ Ok p → AddedUp s before count first (passed + 1) (sum + p.value) p.next
    unfolding tally
    added_one h p e =
        let m = ap sum_of (numbers_turn s count passed at h (sym (taken_read s at p e))) in
        omega (arith, m, a)

    pub added_weight :
        passed < count → {x : Result Span Refusal} → x ≡ weight_at s 0 at → (p : Span) → x ≡ Ok p
        → AddedUp s before count first (passed + 1) (sum + p.value) p.next
    unfolding weight_at
    added_weight h e p g = added_one h p (limited s 0 weight_most at p (sym e ∙ g)).number

    -- all of them are added up
    pub added_all : count ≤ passed → sum ≡ before + sum_of (numbers_from count s first)
    unfolding tally
    added_all h = let m = ap sum_of (numbers_over s count passed at h) in omega (arith, m, a)

    pub added_most : count ≤ number_most → sum ≤ before + number_most * number_most
    added_most h =
        let m : sum_of (numbers_from count s first) ≤ number_most * number_most =
        le_trans (numbers_sum_most s count first) (mul-le-mul_right number_most h) in
        omega (arith, a, m)

-- weights of one byte
module _ (s : List ℕ) {before count first : ℕ} where
  pub added_from : AddedAhead s before count first before first
  added_from = record { ahead = none_ahead (weight_at s) count first; added = added_none s before count first }

  module _ {sum at end most byte : ℕ} (a : AddedAhead s before count first sum at) (e : end ≡ past_bytes s count first) (l : at < end) (m : most ≡ min weight_most 127) (w : byte ≡ get_or s at 0) (b : byte ≤ most) where
    pub added_ahead : AddedAhead s before count first (sum + byte) (at + 1)
    added_ahead =
        let begun = a.ahead.begun in
        let small : byte < 128 = omega (arith, m, b) in
        let there = past_there s count first at begun (omega (arith, e, l)) in
        let z : at - first + 1 ≡ at + 1 - first = omega arith in
        record {
          ahead = weight_ahead s a.ahead e l m w b;
          added =
              subst (λ (k : ℕ). AddedUp s before count first k (sum + byte) (at + 1)) z
              (added_one s before count first (at - first) sum at a.added (omega (arith, e, l, past_few s count first))
              (span byte at (at + 1))
              (byte_read s at byte there w small));
        }

-- the answer of a run of weights, with its sum
module _ (s : List ℕ) (before count first : ℕ) where
  pub sum_got :
      {sum at : ℕ} (p : Span) → p ≡ span sum first at → Ok (span count first at) ≡ weights_at s count first
      → sum ≡ before + sum_of (numbers_from count s first) → Ok p ≡ sum_at s before count first
  unfolding sum_at read_then
  sum_got {at = at} p e h t =
      ap (λ (q : Span). Ok q) e
      ∙ ap (λ (v : ℕ). Ok (span v first at)) t
      ∙ ap (λ (r : Result Span Refusal). read_then Err r (λ ws. Ok (span (before + sum_of (numbers_of s ws)) ws.first ws.next))) h

  pub sum_out : (x : Result Span Refusal) (why : Refusal) → x ≡ weights_at s count first → x ≡ Err why → x ≡ sum_at s before count first
  unfolding sum_at read_then
  sum_out x why h g =
      g ∙ ap (λ (r : Result Span Refusal). read_then Err r (λ ws. Ok (span (before + sum_of (numbers_of s ws)) ws.first ws.next))) (sym g ∙ h)

  -- what a sum that was read has read
  pub record SumRan (p : Span) : Type 0 where
    pub reads : weights_at s count first ≡ Ok (span count first p.next)
    pub first_is : p.first ≡ first
    pub sum_is : p.value ≡ before + sum_of (numbers_from count s first)

  pub sum_ran : (p : Span) → sum_at s before count first ≡ Ok p → SumRan p
  unfolding sum_at weights_at
  sum_ran p e =
      let g = from_read Err _ (weights_at s count first) not_ok e in
      let k = run_keeps (weight_at s) count 0 (span count first first) g.0 g.1 in
      made g.0 g.1 k.0 k.1 (same_ok g.2)
    where
      made :
          (ws : Span) → weights_at s count first ≡ Ok ws → ws.value ≡ count → ws.first ≡ first
          → span (before + sum_of (numbers_of s ws)) ws.first ws.next ≡ p → SumRan p
      made ws h v f z =
          let n : ws.next ≡ p.next = ap (λ (q : Span). q.next) z in
          record {
            reads = h ∙ (λ j. Ok (span (v j) (f j) (n j)));
            first_is = sym (ap (λ (q : Span). q.first) z) ∙ f;
            sum_is = sym (ap (λ (q : Span). q.value) z) ∙ ap₂ (λ (k at : ℕ). before + sum_of (numbers_from k s at)) v f;
          }

  pub sum_refused : (why : Refusal) → sum_at s before count first ≡ Err why → weights_at s count first ≡ Err why
  unfolding sum_at read_then
  sum_refused why e = by (weights_at s count first) e
    where
      by : (a : Result Span Refusal) → read_then Err a (λ ws. Ok (span (before + sum_of (numbers_of s ws)) ws.first ws.next)) ≡ Err why → a ≡ Err why
      by (Ok ws) z = let w : ◌≡◌ {A = ℕ} 0 1 = cc in absurd (omega arith)
      by (Err because) z = z

  pub sum_most :
      count ≤ number_most → {x : Result Span Refusal} → x ≡ sum_at s before count first → (p : Span) → x ≡ Ok p
      → p.value ≤ before + number_most * number_most
  sum_most h e p g =
      let m : sum_of (numbers_from count s first) ≤ number_most * number_most =
      le_trans (numbers_sum_most s count first) (mul-le-mul_right number_most h) in
      omega (arith, (sum_ran p (sym e ∙ g)).sum_is, m)
