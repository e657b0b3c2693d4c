-- A literal counts by the side of its atom; a rule's body weighs what its two runs of literals weigh, and no more than fits.
use Prim.Native.Nat.{ℕ, ◌+◌, ◌*◌, ◌≤◌}
use mathlib.Core.Path.{◌≡◌, sym, ◌∙◌, ap, ap₂, subst}
use mathlib.Core.Bool.{Bool, true, false}
use mathlib.Core.List.{List}
use native.Mathlib.Omega.{arith}
use Rattle.rules.specs.Limits.{atoms_most, weight_most}
use Rattle.rules.specs.Sum.{counted}
use Rattle.rules.specs.Stable.{Set, gain, value}
use Rattle.rules.specs.Map.{Map}
use Rattle.table.specs.Inner.Words.{seg, Seg}
use Rattle.table.specs.Inner.Rows.{positives_at, negatives_at, end_at, row_rule, Row}
use Rattle.table.proofs.Words.{seg_light}
use Rattle.weigh.specs.Inner.Weigh.{meets, sees}
use Rattle.weigh.specs.declared.Seen.{Seen}

module _ (M : Map) (e : Seen) (a a' x w w' : ℕ) (b : Bool) (ea : a ≡ a') (ex : x ≡ M a) (eb : b ≡ meets e x) where
  seen : b ≡ sees e M a'
  seen = eb ∙ ap (meets e) (ex ∙ ap M ea)

  pub counts : b ≡ true → w ≡ w' → w ≡ counted (sees e M a') w'
  counts t ew = ew ∙ ap (λ (f : Bool). counted f w') (sym t ∙ seen)

pub seg_cast : (c : List ℕ) (n : ℕ) {f f' t t' : ℕ} → f ≡ f' → t ≡ t' → Seg c n f' t' → Seg c n f t
seg_cast c n {f} {f'} {t} {t'} ef et s = subst (λ (x : ℕ). Seg c n x t) (sym ef) (subst (Seg c n f') (sym et) s)

module _ (c : List ℕ) (i : ℕ) (p q : Set) where
  pub value_runs :
      {x y f m t : ℕ} → x ≡ gain p (seg c f m) → y ≡ gain q (seg c m t) → f ≡ positives_at c i → m ≡ negatives_at c i
      → t ≡ end_at c i → x + y ≡ value (row_rule c i) p q
  unfolding value
  value_runs ex ey ef em et =
      ap₂ ◌+◌ (ex ∙ ap₂ (λ (u v : ℕ). gain p (seg c u v)) ef em) (ey ∙ ap₂ (λ (u v : ℕ). gain q (seg c u v)) em et)

  pub value_light : (n : ℕ) → Row c n i → value (row_rule c i) p q ≤ 2 * (atoms_most * weight_most)
  unfolding value atoms_most weight_most
  value_light n r =
      omega (arith, seg_light c n p _ _ (r.literals true), seg_light c n q _ _ (r.literals false))
