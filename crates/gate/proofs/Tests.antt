-- A gate goes on exactly where the sheet is read and every test of the call lets it go on, and it is stopped by the first that does not:
-- one test after another, by the definition of `tested`.
use Prim.Native.Nat.{ℕ}
use mathlib.Core.Path.{◌≡◌, refl, sym, ap, subst, ◌∙◌}
use mathlib.Core.Bool.{Bool, true, false}
use mathlib.Core.List.{List, [], ◌∷◌}
use Rattle.std.specs.Prelude.{Result, Ok, Err}
use Rattle.rules.specs.Sum.{pick}
use Rattle.numbers.specs.Answer.{read_then}
use Rattle.numbers.specs.declared.Refusal.{Refusal}
use Rattle.numbers.proofs.Answer.{from_read, from_no, not_ok, same_ok}
use Rattle.sheet.specs.Sheet.{sheet_read}
use Rattle.sheet.specs.declared.Outline.{Outline}
use Rattle.gate.specs.Gate.{Test, stop_if, tested, gate, beside}

-- a test that does not stop a call
pub no_stop : (b : Bool) (why : Refusal) → b ≡ false → stop_if b why ≡ Ok tt
unfolding stop_if pick
no_stop b why e = ap (λ (x : Bool). stop_if x why) e

pub stops : (b : Bool) (why : Refusal) → b ≡ true → stop_if b why ≡ Err why
unfolding stop_if pick
stops b why e = ap (λ (x : Bool). stop_if x why) e

pub not_stopped : (b : Bool) (why : Refusal) → stop_if b why ≡ Ok tt → b ≡ false
unfolding stop_if
not_stopped b why e = (from_no b _ _ (not_ok why) e).0

-- every test lets the call go on
abbrev pub AllPass : List Test → Type 0
AllPass [] = Unit
AllPass (t ∷ ts) = (t ≡ Ok tt) × AllPass ts

pub all_pass : (ts : List Test) (o o' : Outline) → tested ts o ≡ Ok o' → (o ≡ o') × AllPass ts
unfolding tested
all_pass [] o o' e = (same_ok e, tt)
all_pass (t ∷ ts) o o' e =
    let (u, passes, h) = from_read Err (λ _. tested ts o) t (λ why. not_ok why) e in
    let (same, rest) = all_pass ts o o' h in
    (same, (passes, rest))

-- one test, and then the others
module _ (t : Test) (ts : List Test) (o : Outline) where
  pub test_stops : {why : Refusal} → t ≡ Err why → tested (t ∷ ts) o ≡ Err why
  unfolding tested read_then
  test_stops e = ap (λ (x : Test). read_then Err x (λ _. tested ts o)) e

  pub test_passes : {r : Result Outline Refusal} → t ≡ Ok tt → tested ts o ≡ r → tested (t ∷ ts) o ≡ r
  unfolding tested read_then
  test_passes e h = ap (λ (x : Test). read_then Err x (λ _. tested ts o)) e ∙ h

pub all_tested : (ts : List Test) (o : Outline) → AllPass ts → tested ts o ≡ Ok o
unfolding tested
all_tested [] o a = refl
all_tested (t ∷ ts) o a = test_passes t ts o a.0 (all_tested ts o a.1)

-- the sheet, and then the tests
module _ (s : List ℕ) (tests : Outline → List Test) where
  pub sheet_passes : {o : Outline} {r : Result Outline Refusal} → sheet_read s ≡ Ok o → tested (tests o) o ≡ r → gate s tests ≡ r
  unfolding gate read_then
  sheet_passes e h = ap (λ (x : Result Outline Refusal). read_then Err x (λ o. tested (tests o) o)) e ∙ h

pub gate_goes : (s : List ℕ) (tests : Outline → List Test) {o : Outline} → gate s tests ≡ Ok o → (sheet_read s ≡ Ok o) × AllPass (tests o)
unfolding gate
gate_goes s tests {o} e =
    let (o', read, h) = from_read Err (λ y. tested (tests y) y) (sheet_read s) (λ why. not_ok why) e in
    let (same, pass) = all_pass (tests o') o' o h in
    (read ∙ ap Ok same, subst (λ (y : Outline). AllPass (tests y)) same pass)

-- a value that stands beside the sheet is the one that was put there
module _ {B : Type 0} (x : Outline → B) (g : Result Outline Refusal) where
  pub beside_goes : {y : B} {o : Outline} → ◌≡◌ {A = Result (Outline × B) Refusal} (Ok (o, y)) (beside x g) → (g ≡ Ok o) × (x o ≡ y)
  unfolding beside
  beside_goes {y} {o} e =
      let (o', goes, h) = from_read Err (λ z. Ok (z, x z)) g (λ why. not_ok why) (sym e) in
      let same = same_ok h in
      let outline = ap (λ (z : Outline × B). z.0) same in
      (goes ∙ ap Ok outline, ap x (sym outline) ∙ ap (λ (z : Outline × B). z.1) same)

  pub beside_stops : {why : Refusal} → ◌≡◌ {A = Result (Outline × B) Refusal} (Err why) (beside x g) → g ≡ Err why
  unfolding beside read_then
  beside_stops {why} e = by g e
    where
      by : (z : Result Outline Refusal) → ◌≡◌ {A = Result (Outline × B) Refusal} (Err why) (read_then Err z (λ o. Ok (o, x o))) → z ≡ Err why
      by (Ok o) h = absurd (not_ok why h)
      by (Err w) h = ap Err (same_err (sym h))
        where
          same_err : ◌≡◌ {A = Result (Outline × B) Refusal} (Err w) (Err why) → w ≡ why
          same_err k = cc
