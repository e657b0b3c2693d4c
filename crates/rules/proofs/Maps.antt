-- Maps by how much they decide: ⊑ is an order on maps, sure grows along it and reach falls, each by a literal's weight where that
-- literal is decided.
use Prim.Native.Nat.{ℕ, zero, suc, ◌+◌, ◌≤◌}
use mathlib.Core.Path.{◌≡◌, refl, sym, ◌∙◌, subst}
use mathlib.Core.Logic.{◌⊎◌, inl, inr, ⊎_elim}
use mathlib.Core.Bool.{Bool, true, false, not}
use mathlib.Core.List.{Memᴰ}
use native.Mathlib.Omega.{arith}
use native.Mathlib.Nat.{not-suc-le-zero, le_of_suc-le-suc}
use lib.Dec.{T}
use Rattle.rules.specs.Rule.{Rule, Weighted, Within, body}
use Rattle.rules.specs.Map.{Map, IsMap, want, is, isnt, sure, reach, ◌⊑◌}
use Rattle.rules.proofs.Tests.{eq_T, T_eq, ne_T, T_ne, double}
use Rattle.rules.proofs.Inside.{within?}
use Rattle.rules.proofs.Value.{by, value_mono, value_more}

-- a side is undecided, or the one that a sign wants, or the other
pub sides : (k : ℕ) → k ≤ 2 → (s : Bool) → (k ≡ 0) ⊎ ((k ≡ want s) ⊎ (k ≡ want (not s)))
sides zero h s = inl refl
sides (suc zero) h true = inr (inl refl)
sides (suc zero) h false = inr (inr refl)
sides (suc (suc zero)) h true = inr (inr refl)
sides (suc (suc zero)) h false = inr (inl refl)
sides (suc (suc (suc k))) h s = absurd (not-suc-le-zero (le_of_suc-le-suc (le_of_suc-le-suc h)))

pub want_apart : (s : Bool) → want s ≡ want (not s) → ⊥
want_apart true e = omega arith
want_apart false e = omega arith

pub want_decided : (s : Bool) → want s ≡ 0 → ⊥
want_decided true e = omega arith
want_decided false e = omega arith

-- a decided atom is one of the n
pub decided_within : {n : ℕ} {M : Map} → IsMap n M → (s : Bool) (a : ℕ) → M a ≡ want s → Within n a
decided_within {n} m s a e =
    ⊎_elim (λ (w : Within n a). w) (λ o. absurd (want_decided s (sym e ∙ m.beyond a o))) (within? n a)

pub ⊑_refl : (M : Map) → M ⊑ M
⊑_refl M = record { keeps = λ s a e. e }

pub ⊑_trans : {M M' M'' : Map} → M ⊑ M' → M' ⊑ M'' → M ⊑ M''
⊑_trans f g = record { keeps = λ s a e. g.keeps s a (f.keeps s a e) }

-- two maps each below the other are equal
pub ⊑_antisym : {n : ℕ} {M M' : Map} → IsMap n M → IsMap n M' → M ⊑ M' → M' ⊑ M → (a : ℕ) → M a ≡ M' a
⊑_antisym {n} {M} {M'} m m' f g a = step (sides (M a) (m.sides a) true)
  where
    zeros : M a ≡ 0 → (M' a ≡ 0) ⊎ ((M' a ≡ 1) ⊎ (M' a ≡ 2)) → M a ≡ M' a
    zeros e (inl z) = e ∙ sym z
    zeros e (inr (inl o)) = absurd (want_decided true (sym (g.keeps true a o) ∙ e))
    zeros e (inr (inr o)) = absurd (want_decided false (sym (g.keeps false a o) ∙ e))

    step : (M a ≡ 0) ⊎ ((M a ≡ 1) ⊎ (M a ≡ 2)) → M a ≡ M' a
    step (inl z) = zeros z (sides (M' a) (m'.sides a) true)
    step (inr (inl o)) = o ∙ sym (f.keeps true a o)
    step (inr (inr o)) = o ∙ sym (f.keeps false a o)

-- by signs: a literal is sure where its atom is on the side that it wants, and in reach where it is not on the other
sure_by : (M : Map) (s : Bool) (a : ℕ) → by s (is 1 M) (is 2 M) a ≡ is (want s) M a
sure_by M true a = refl
sure_by M false a = refl

reach_by : (M : Map) (s : Bool) (a : ℕ) → by s (isnt 2 M) (isnt 1 M) a ≡ isnt (want (not s)) M a
reach_by M true a = refl
reach_by M false a = refl

module _ {M M' : Map} (f : M ⊑ M') (r : Rule) where
  sure_on :
      (s : Bool) (l : Weighted) → Memᴰ l (body r s) → T (by s (is 1 M) (is 2 M) l.atom)
      → T (by s (is 1 M') (is 2 M') l.atom)
  sure_on s l m t =
      subst T (sym (sure_by M' s l.atom)) (eq_T (f.keeps s l.atom (T_eq (subst T (sure_by M s l.atom) t))))

  reach_back :
      (s : Bool) (l : Weighted) → Memᴰ l (body r s) → T (by s (isnt 2 M') (isnt 1 M') l.atom)
      → T (by s (isnt 2 M) (isnt 1 M) l.atom)
  reach_back s l m t =
      subst
      T
      (sym (reach_by M s l.atom))
      (ne_T (λ e. T_ne (subst T (reach_by M' s l.atom) t) (f.keeps (not s) l.atom e)))

  pub sure_grows : sure r M ≤ sure r M'
  sure_grows = value_mono r (is 1 M) (is 2 M) (is 1 M') (is 2 M') sure_on

  pub reach_falls : reach r M' ≤ reach r M
  reach_falls = value_mono r (isnt 2 M') (isnt 1 M') (isnt 2 M) (isnt 1 M) reach_back

  module _ (s : Bool) (l : Weighted) (m : Memᴰ l (body r s)) (z : M l.atom ≡ 0) where
    -- a literal that becomes true adds its weight to sure
    pub sure_more : M' l.atom ≡ want s → sure r M + l.weight ≤ sure r M'
    sure_more e =
        value_more
        r
        (is 1 M)
        (is 2 M)
        (is 1 M')
        (is 2 M')
        sure_on
        s
        l
        m
        (subst (λ (b : Bool). T (not b)) (sym (sure_by M s l.atom)) (ne_T (λ o. want_decided s (sym o ∙ z))))
        (subst T (sym (sure_by M' s l.atom)) (eq_T e))

    -- a literal that becomes false takes its weight from reach
    pub reach_less : M' l.atom ≡ want (not s) → reach r M' + l.weight ≤ reach r M
    reach_less e =
        value_more
        r
        (isnt 2 M')
        (isnt 1 M')
        (isnt 2 M)
        (isnt 1 M)
        reach_back
        s
        l
        m
        (subst (λ (b : Bool). T (not b)) (sym (reach_by M' s l.atom)) (double (is (want (not s)) M' l.atom) (eq_T e)))
        (subst T (sym (reach_by M s l.atom)) (ne_T (λ o. want_decided (not s) (sym o ∙ z))))
