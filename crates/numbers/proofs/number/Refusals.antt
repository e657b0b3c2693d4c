-- A number is refused exactly where its bytes say so, by the number and at the place that they say: the groups are read one after
-- another for as long as the top bit is set, and at most four of them.
use Prim.Native.Nat.{ℕ, zero, suc, ◌+◌, ◌≤◌, ◌<◌}
use mathlib.Core.Path.{◌≡◌, refl, ap, ◌∙◌, subst}
use mathlib.Core.Logic.{⊎_elim}
use mathlib.Core.List.{List}
use native.Mathlib.Omega.{arith}
use lib.ListN.{length, get_or}
use borrow.Author.Tests.{lt-ltb, le-ltb}
use Rattle.std.specs.Prelude.{Result, Ok, Err}
use Rattle.rules.specs.Sum.{pick}
use Rattle.rules.proofs.Tests.{below?}
use Rattle.numbers.specs.Answer.{read_then, refusal}
use Rattle.numbers.specs.Number.{groups_from, number_at}
use Rattle.numbers.specs.Shown.Refusals.{RunsOn, NumberRefused, ends, padded, large}
use Rattle.numbers.specs.declared.reason.Reason.TheVariants.{EndsEarly, NotShortest, FourthByte}
use Rattle.numbers.specs.declared.Refusal.{Refusal}
use Rattle.numbers.specs.declared.Span.{Span}
use Rattle.numbers.proofs.number.Look.{Look, at_end, left_out, final, further, look}

got_no_refusal : {why : Refusal} (p : Span) → ◌≡◌ {A = Result Span Refusal} (Ok p) (Err why) → ⊥
got_no_refusal p e = let z : ◌≡◌ {A = ℕ} 0 1 = cc in omega arith

same_why : {why other : Refusal} → ◌≡◌ {A = Result Span Refusal} (Err why) (Err other) → why ≡ other
same_why e = cc

read_refused : {why : Refusal} (f : Span → Span) (a : Result Span Refusal) → read_then Err a (λ p. Ok (f p)) ≡ Err why → a ≡ Err why
unfolding read_then
read_refused f (Ok p) e = absurd (got_no_refusal _ e)
read_refused f (Err other) e = e

module _ (s : List ℕ) (first : ℕ) where
  -- one byte more
  on : (count at : ℕ) → first + count ≡ at → at < length s → 128 ≤ get_or s at 0 → RunsOn s first count → RunsOn s first (count + 1)
  on count at e l b runs i h = ⊎_elim (λ (k : i < count). runs i k) (λ (k : count ≤ i). here (omega arith)) (below? i count)
    where
      here : i ≡ count → (first + i < length s) × (128 ≤ get_or s (first + i) 0)
      here k =
          let w : at ≡ first + i = omega arith in
          subst (λ (x : ℕ). (x < length s) × (128 ≤ get_or s x 0)) w (l, b)

  from :
      (why : Refusal) (left count at : ℕ) → first + count ≡ at → count + left ≡ 4 → RunsOn s first count
      → groups_from left s first at ≡ Err why → NumberRefused s first why
  unfolding groups_from
  from why zero count at e f runs z = subst (NumberRefused s first) (same_why z) (large (λ i h. runs i (omega arith)))
  from why (suc left) count at e f runs z =
      by (groups_from (suc left) s first at) (look s left first at) z
      (λ l b r. from why left (count + 1) (at + 1) (omega arith) (omega arith) (on count at e l b runs) r)
    where
      by :
          (a : Result Span Refusal) → Look s left first at a → a ≡ Err why
          → (at < length s → 128 ≤ get_or s at 0 → groups_from left s first (at + 1) ≡ Err why → NumberRefused s first why)
          → NumberRefused s first why
      by a (at_end l) z more = subst (NumberRefused s first) (same_why z) (ends count (omega arith) runs (omega arith))
      by a (left_out l m o) z more =
          subst (NumberRefused s first) (same_why z)
          (padded count (omega arith) (omega arith) runs (omega arith) (ap (λ (x : ℕ). get_or s x 0) e ∙ o))
      by a (final l b n) z more = absurd (got_no_refusal _ z)
      by a (further l b) z more = more l b (read_refused _ _ z)

  -- the number at a place is refused only where its bytes say so
  pub refused_why : (why : Refusal) → number_at s first ≡ Err why → NumberRefused s first why
  unfolding number_at
  refused_why why e = from why 4 0 first (omega arith) refl (λ i h. absurd (omega arith)) e

  -- the groups before the byte on which it turns
  module _
      (why : Refusal) (count : ℕ) (few : count ≤ 4) (runs : RunsOn s first count)
      (last : (left : ℕ) → count + left ≡ 4 → groups_from left s first (first + count) ≡ Err why) where
    turn : (left done at : ℕ) → first + done ≡ at → done + left ≡ 4 → count ≤ done → done ≤ count → groups_from left s first at ≡ Err why
    turn left done at e f g h =
        let w : at ≡ first + count = omega arith in
        ap (λ (x : ℕ). groups_from left s first x) w ∙ last left (omega arith)

    onward : (left done at : ℕ) → first + done ≡ at → done + left ≡ 4 → done ≤ count → groups_from left s first at ≡ Err why
    unfolding groups_from pick read_then
    onward zero done at e f h = turn 0 done at e f (omega arith) h
    onward (suc left) done at e f h =
        ⊎_elim
        (λ (k : done < count). more (runs done k) (onward left (done + 1) (at + 1) (omega arith) (omega arith) (omega arith)))
        (λ (k : count ≤ done). turn (suc left) done at e f k h)
        (below? done count)
      where
        more :
            (first + done < length s) × (128 ≤ get_or s (first + done) 0) → groups_from left s first (at + 1) ≡ Err why
            → groups_from (suc left) s first at ≡ Err why
        more r rest =
            simp (
              lt-ltb at (length s) (omega (arith, r.0)),
              le-ltb (get_or s at 0) 128 (subst (λ (x : ℕ). 128 ≤ get_or s x 0) e r.1),
              rest,
            )

    met : number_at s first ≡ Err why
    unfolding number_at
    met = onward 4 0 first (omega arith) refl (omega arith)

  -- and wherever they do
  pub why_refused : (why : Refusal) → NumberRefused s first why → number_at s first ≡ Err why
  unfolding groups_from pick
  why_refused why (ends count few runs l) = met _ count (omega arith) runs ended
    where
      ended : (left : ℕ) → count + left ≡ 4 → groups_from left s first (first + count) ≡ Err (refusal EndsEarly (length s))
      ended zero e = absurd (omega arith)
      ended (suc left) e = simp (le-ltb (first + count) (length s) l)
  why_refused why (padded count some few runs l o) = met _ count (omega arith) runs empty
    where
      empty : (left : ℕ) → count + left ≡ 4 → groups_from left s first (first + count) ≡ Err (refusal NotShortest first)
      empty zero e = absurd (omega arith)
      empty (suc left) e = simp (lt-ltb (first + count) (length s) l, o, lt-ltb first (first + count) (omega arith))
  why_refused why (large runs) = met _ 4 (omega arith) runs spent
    where
      spent : (left : ℕ) → 4 + left ≡ 4 → groups_from left s first (first + 4) ≡ Err (refusal FourthByte first)
      spent zero e = refl
      spent (suc left) e = absurd (omega arith)
