-- What is written for a body is read as that body: two lists, and the weights that its kind calls for.
use Prim.Native.Nat.{ℕ, ◌+◌, ◌≤◌}
use mathlib.Core.Path.{◌≡◌, refl, ◌∙◌}
use mathlib.Core.List.{List, ◌++◌, append_assoc}
use native.Mathlib.Omega.{arith}
use lib.ListN.{length, drop}
use Rattle.std.specs.Prelude.{Ok}
use Rattle.rules.specs.Limits.{number_most, weight_most}
use Rattle.numbers.specs.Answer.{read_then, span}
use Rattle.numbers.specs.Number.{number_at}
use Rattle.numbers.specs.Lists.{numbers_of}
use Rattle.numbers.specs.Shown.Encode.{number_bytes, numbers_bytes, list_bytes, Rising}
use Rattle.numbers.proofs.number.Encoded.{past}
use Rattle.numbers.proofs.lists.Encoded.{numbers_read, written}
use Rattle.numbers.proofs.lists.Whole.{list_span, within_read, list_read, list_numbers, list_past_law}
use Rattle.sheet.specs.Body.{weight_at, weights_at, weights_due, need_for, weighed_at, body_at}
use Rattle.sheet.specs.Shown.Encode.{LightOne, Light}
use Rattle.sheet.specs.declared.SheetKind.{SheetKind}
use Rattle.sheet.specs.declared.SheetRule.{SheetRule}

light_small : (before w : ℕ) → LightOne before w → w ≤ number_most
unfolding weight_most number_most
light_small before w h = omega (arith, h.most)

weight_complete :
    (s : List ℕ) (before at w : ℕ) → LightOne before w → number_at s at ≡ Ok (span w at (at + length (number_bytes w)))
    → weight_at s before at ≡ Ok (span w at (at + length (number_bytes w)))
unfolding weight_at
weight_complete s before at w h e = within_read s 0 weight_most at _ e (omega arith) h.most

weights_read :
    (s : List ℕ) (at : ℕ) (ws q : List ℕ) → Light ws → drop at s ≡ numbers_bytes ws ++ q
    → weights_at s (length ws) at ≡ Ok (span (length ws) at (at + length (numbers_bytes ws)))
unfolding weights_at
weights_read s at ws q h d =
    written s LightOne light_small (weight_at s) (weight_complete s) h (span (length ws) at at) q d

-- a rule that was written: its kind, and the numbers of its lists
pub record BodyWritten (s : List ℕ) (n : ℕ) (kind : SheetKind) (at : ℕ) (xs ys vs ws q : List ℕ) (r : SheetRule) : Type 0 where
  pub reads : body_at s n kind at ≡ Ok r
  pub kind_is : r.kind ≡ kind
  pub positive : numbers_of s r.positive.atoms ≡ xs
  pub negated : numbers_of s r.negated.atoms ≡ ys
  pub above : numbers_of s r.positive.weights ≡ vs
  pub below : numbers_of s r.negated.weights ≡ ws
  pub rest : drop r.next s ≡ q

pub body_written :
    (s : List ℕ) (n : ℕ) (kind : SheetKind) (at : ℕ) (xs ys vs ws q : List ℕ) → n ≤ number_most → Rising n xs → Rising n ys → Light vs
    → Light ws → weights_due kind (length xs) ≡ length vs → weights_due kind (length ys) ≡ length ws
    → drop at s ≡ (list_bytes xs ++ list_bytes ys) ++ ((numbers_bytes vs ++ numbers_bytes ws) ++ q)
    → (r : SheetRule) × BodyWritten s n kind at xs ys vs ws q r
unfolding body_at weighed_at read_then
body_written s n kind at xs ys vs ws q m rx ry lv lw ev ew d =
    let d₁ : drop at s ≡ list_bytes xs ++ (list_bytes ys ++ (numbers_bytes vs ++ (numbers_bytes ws ++ q))) =
    d ∙ regroup (list_bytes xs) (list_bytes ys) (numbers_bytes vs) (numbers_bytes ws) q in
    let a₁ : ℕ = at + length (list_bytes xs) in
    let d₂ : drop a₁ s ≡ list_bytes ys ++ (numbers_bytes vs ++ (numbers_bytes ws ++ q)) = list_past_law s 0 n at xs _ m rx d₁ in
    let a₂ : ℕ = a₁ + length (list_bytes ys) in
    let d₃ : drop a₂ s ≡ numbers_bytes vs ++ (numbers_bytes ws ++ q) = list_past_law s 0 n a₁ ys _ m ry d₂ in
    let a₃ : ℕ = a₂ + length (numbers_bytes vs) in
    let d₄ : drop a₃ s ≡ numbers_bytes ws ++ q = past s (numbers_bytes vs) _ a₂ d₃ in
    let a₄ : ℕ = a₃ + length (numbers_bytes ws) in
    let r : SheetRule = record {
      kind = kind;
      need = need_for kind (length xs + length ys);
      positive = record { atoms = list_span at xs; weights = span (length vs) a₂ a₃ };
      negated = record { atoms = list_span a₁ ys; weights = span (length ws) a₃ a₄ };
      next = a₄;
    } in (
      r,
      record {
        reads =
            simp (
              list_read s 0 n at xs _ m rx d₁ (omega arith),
              list_read s 0 n a₁ ys _ m ry d₂ (omega arith),
              ev,
              ew,
              weights_read s a₂ vs _ lv d₃,
              weights_read s a₃ ws q lw d₄,
            );
        kind_is = refl;
        positive = list_numbers s 0 n at xs _ m rx d₁;
        negated = list_numbers s 0 n a₁ ys _ m ry d₂;
        above = numbers_read s LightOne light_small lv a₂ _ d₃;
        below = numbers_read s LightOne light_small lw a₃ q d₄;
        rest = past s (numbers_bytes ws) q a₃ d₄;
      },
    )
  where
    regroup : (a b c e f : List ℕ) → (a ++ b) ++ ((c ++ e) ++ f) ≡ a ++ (b ++ (c ++ (e ++ f)))
    regroup a b c e f = simp append_assoc
