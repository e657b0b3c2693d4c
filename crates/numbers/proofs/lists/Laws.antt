-- A run, turn by turn: what is left of it, from here on, is the whole answer. So a loop that has k of n turns behind it keeps the
-- answer of `in_turn` at n - k.
use Prim.Native.Nat.{ℕ, suc, ◌+◌, ◌-◌, ◌≤◌, ◌<◌}
use mathlib.Core.Path.{◌≡◌, sym, ap, ◌∙◌}
use native.Mathlib.Omega.{arith}
use Rattle.std.specs.Prelude.{Result, Ok, Err}
use Rattle.numbers.specs.Answer.{read_then}
use Rattle.numbers.specs.Lists.{in_turn, up_to}
use Rattle.numbers.specs.declared.Refusal.{Refusal}
use Rattle.numbers.specs.declared.Span.{Span}
use Rattle.numbers.proofs.Answer.{one_left}

module _ (step : ℕ → ℕ → Result Span Refusal) (n k before : ℕ) (done : Span) {r : Result Span Refusal} (left : in_turn step (n - k) before done ≡ r) where
  opened : k < n → in_turn step (suc (n - (k + 1))) before done ≡ r
  opened h = ap (λ (m : ℕ). in_turn step m before done) (sym (one_left n k h)) ∙ left

  module _ (h : k < n) {x : Result Span Refusal} (e : x ≡ step before done.next) where
    pub turn : (one : Span) → x ≡ Ok one → in_turn step (n - (k + 1)) one.value (up_to done one.next) ≡ r
    unfolding in_turn read_then
    turn one g =
        ap (λ (t : Result Span Refusal). read_then Err t (λ one. in_turn step (n - (k + 1)) one.value (up_to done one.next))) (sym g ∙ e)
        ∙ opened h

    pub turn_out : (why : Refusal) → x ≡ Err why → x ≡ r
    unfolding in_turn read_then
    turn_out why g =
        g
        ∙ ap (λ (t : Result Span Refusal). read_then Err t (λ one. in_turn step (n - (k + 1)) one.value (up_to done one.next))) (sym g ∙ e)
        ∙ opened h

  pub turned : n ≤ k → Ok done ≡ r
  unfolding in_turn
  turned h =
      let z : 0 ≡ n - k = omega arith in
      ap (λ (m : ℕ). in_turn step m before done) z ∙ left
