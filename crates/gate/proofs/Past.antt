-- "Bytes past n are never read": the gates of two maps that are long enough and agree on their first n bytes are the same, since each
-- test looks at these alone.
use Prim.Native.Nat.{ℕ, ◌<◌}
use mathlib.Core.Path.{◌≡◌, refl, sym, ◌∙◌, ap, ap₂}
use mathlib.Core.Bool.{Bool}
use mathlib.Core.List.{List, [], ◌∷◌}
use lib.ListN.{get_or}
use Rattle.std.specs.Prelude.{Some, None, Result, Ok, Err}
use Rattle.rules.specs.Sum.{pick}
use Rattle.numbers.specs.Answer.{refusal, read_then}
use Rattle.numbers.specs.declared.Refusal.{Refusal}
use Rattle.numbers.specs.declared.reason.Reason.TheVariants.{MarginOnContradiction}
use Rattle.sheet.specs.declared.Outline.{Outline}
use Rattle.gate.specs.Gate.{Test, stop_if, pin, rule, no_fault, tested, test_gate, pin_gate, margin_gate, pin_of, beside, with_stay}
use Rattle.gate.proofs.Calls.{Lent, lent_through}
use Rattle.gate.proofs.scan.Maps.{map_same, model_same, is_contradiction_same}

-- what stands beside the sheet where the tests let it go on need only be the same of this sheet
beside_same :
    {B : Type 0} (x y : Outline → B) (o : Outline) → x o ≡ y o → (ts : List Test) → beside x (tested ts o) ≡ beside y (tested ts o)
unfolding beside tested read_then
beside_same x y o e [] = ap (λ b. Ok (o, b)) e
beside_same {B} x y o e (t ∷ ts) = by t (beside_same x y o e ts)
  where
    by :
        (z : Test) → beside x (tested ts o) ≡ beside y (tested ts o)
        → beside x (read_then Err z (λ _. tested ts o)) ≡ beside y (read_then Err z (λ _. tested ts o))
    by (Ok u) h = h
    by (Err why) h = refl

module _ (o : Outline) (m m' : List ℕ) (same : (i : ℕ) → i < o.atoms → get_or m i 0 ≡ get_or m' i 0) (s : List ℕ) (lent : Lent s m o) (lent' : Lent s m' o) where
  pub pin_gate_same : (a v : ℕ) → pin_gate s m a v ≡ pin_gate s m' a v
  pin_gate_same a v =
      lent_through lent _
      ∙ ap (λ (x : ℕ). tested (pin o.atoms a v ∷ no_fault o.atoms x ∷ []) o) (map_same o.atoms m m' same)
      ∙ sym (lent_through lent' _)

  -- and with the pin that is handed on
  pub with_stay_same : (a v : ℕ) → with_stay m a v (pin_gate s m a v) ≡ with_stay m' a v (pin_gate s m' a v)
  with_stay_same a v =
      ap (λ (g : Result Outline Refusal). with_stay m a v g) (lent_through lent _)
      ∙ beside_same _ _ o (ap (λ (b : Bool). pick b None (Some (pin_of a v))) (is_contradiction_same o.atoms m m' same)) _
      ∙ ap (λ (g : Result Outline Refusal). with_stay m' a v g) (sym (lent_through lent _) ∙ pin_gate_same a v)

  pub test_gate_same : test_gate s m ≡ test_gate s m'
  test_gate_same =
      lent_through lent _
      ∙ ap (λ (x : ℕ). tested (no_fault o.atoms x ∷ []) o) (model_same o.atoms m m' same)
      ∙ sym (lent_through lent' _)

  pub margin_gate_same : (k : ℕ) → margin_gate s m k ≡ margin_gate s m' k
  margin_gate_same k =
      lent_through lent _
      ∙ ap₂
      (λ (x : ℕ) (b : Bool). tested (rule o.rules.value k ∷ no_fault o.atoms x ∷ stop_if b (refusal MarginOnContradiction 0) ∷ []) o)
      (map_same o.atoms m m' same)
      (is_contradiction_same o.atoms m m' same)
      ∙ sym (lent_through lent' _)
