-- The answer that a number stands for: a top and a value that are read back from their code tell a refusal, where the top is a refusal's number, or
-- else the call's own answer.
use Prim.Native.Nat.{ℕ, suc, ◌-◌, ◌/◌, ◌%◌, ◌<◌, ◌^◌}
use mathlib.Core.Path.{◌≡◌, ap, ap₂, ◌∙◌}
use mathlib.Core.Bool.{Bool}
use native.Mathlib.Omega.{arith}
use lib.IntN.{ℤ, pos, negsuc}
use lib.Dec.{leb, eqb}
use borrow.Author.Tests.{le-leb, lt-leb}
use Rattle.std.specs.Prelude.{Option, Some, None, Result, Ok, Err}
use Rattle.rules.specs.Limits.{bytes_most, highest_refusal}
use Rattle.rules.specs.Sum.{pick}
use Rattle.numbers.specs.Answer.{reason_number, refusal}
use Rattle.numbers.specs.declared.Refusal.{Refusal}
use Rattle.numbers.specs.declared.reason.Reason.{Reason}
use Rattle.numbers.proofs.Places.{Placed}
use Rattle.numbers.proofs.Reasons.{reason_of, reason_found}
use Rattle.desk.specs.Promise.{Checked, PartRead, Opened, Searched, Tested, MarginRead}
use Rattle.desk.specs.declared.Counts.{Counts}
use Rattle.desk.specs.declared.Solved.{Solved}
use Rattle.desk.specs.declared.Solved.TheVariants.{Model, NoModel}
use Rattle.archive.specs.Code.{coded, raised, code_refusal}
use Rattle.archive.proofs.Whole.{code_read, raised_up, raised_down}

-- the answer of a top and a value
unfoldable pub by_top : {A : Type 0} → (ℕ → ℕ → A) → ℕ → ℕ → Result A Refusal
by_top own top value = pick (leb top highest_refusal) (Err (refusal (reason_of top) value)) (Ok (own top value))

unfoldable pub told : {A : Type 0} → (ℕ → ℕ → A) → ℕ → Result A Refusal
told own r = by_top own (r / 2 ^ 40) (r % 2 ^ 40)

-- each call's own answers
abbrev pub counted : ℕ → ℕ → Counts
counted n rules = record { atoms = n; rules = rules }

abbrev pub checked_by : ℕ → ℕ → Counts
checked_by top value = counted (value / 2 ^ 16) (value % 2 ^ 16)

-- a number under the first of two tops
abbrev pub found_by : ℕ → ℕ → ℕ → Option ℕ
found_by some top value = pick (eqb top some) (Some value) None

abbrev pub solved_by : ℕ → ℕ → Solved
solved_by top value = pick (eqb top 35) Model NoModel

abbrev pub tested_by : ℕ → ℕ → Bool
tested_by top value = eqb top 37

-- less 2^32
unfoldable pub lowered : ℕ → ℤ
lowered value = pick (leb (2 ^ 32) value) (pos (value - 2 ^ 32)) (negsuc (2 ^ 32 - suc value))

abbrev pub margin_by : ℕ → ℕ → ℤ
margin_by top value = lowered value

-- the answers that numbers stand for
abbrev pub checked_told : ℕ → Checked
checked_told = told checked_by

abbrev pub opened_told : ℕ → Opened
opened_told = told (found_by 33)

abbrev pub solved_told : ℕ → Searched
solved_told = told solved_by

abbrev pub tested_told : ℕ → Tested
tested_told = told tested_by

abbrev pub margin_told : ℕ → MarginRead
margin_told = told margin_by

abbrev pub part_told : ℕ → PartRead
part_told = told (found_by 40)

module _ {A : Type 0} (own : ℕ → ℕ → A) where
  read : (top value : ℕ) → top < 2 ^ 24 → value < 2 ^ 40 → told own (coded top value) ≡ by_top own top value
  unfolding told
  read top value ht hv =
      let back = code_read top value ht hv in
      ap₂ (λ (t v : ℕ). by_top own t v) back.top' back.value'

  -- a refusal of any call
  pub refusal_told : (why : Refusal) → Placed bytes_most why → told own (code_refusal why) ≡ Err why
  unfolding by_top pick bytes_most
  refusal_told why w =
      let number = reason_number why.reason in
      read number why.place (omega (arith, w.number)) (omega (arith, w.place))
      ∙ ap (λ (b : Bool). pick b (Err (refusal (reason_of number) why.place)) (Ok (own number why.place)))
      (le-leb number highest_refusal w.number)
      ∙ ap (λ (r : Reason). Err (refusal r why.place)) (reason_found why.reason)

  pub answer_told : (top value : ℕ) → highest_refusal < top → top < 2 ^ 24 → value < 2 ^ 40 → told own (coded top value) ≡ Ok (own top value)
  unfolding by_top pick
  answer_told top value low high small =
      read top value high small
      ∙ ap (λ (b : Bool). pick b (Err (refusal (reason_of top) value)) (Ok (own top value))) (lt-leb top highest_refusal low)

-- a margin that was raised
pub lowered_up : (k : ℕ) → lowered (raised (pos k)) ≡ pos k
unfolding lowered pick
lowered_up k =
    ap (λ (b : Bool). pick b (pos (raised (pos k) - 2 ^ 32)) (negsuc (2 ^ 32 - suc (raised (pos k)))))
    (le-leb (2 ^ 32) (raised (pos k)) (omega (arith, raised_up k)))
    ∙ ap pos (omega (arith, raised_up k))

pub lowered_down : (k : ℕ) → k < 2 ^ 32 → lowered (raised (negsuc k)) ≡ negsuc k
unfolding lowered pick
lowered_down k h =
    ap (λ (b : Bool). pick b (pos (raised (negsuc k) - 2 ^ 32)) (negsuc (2 ^ 32 - suc (raised (negsuc k)))))
    (lt-leb (2 ^ 32) (raised (negsuc k)) (omega (arith, raised_down k h)))
    ∙ ap negsuc (omega (arith, raised_down k h))
