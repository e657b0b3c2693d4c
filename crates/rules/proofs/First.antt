-- The first model is unique, since two sets of atoms up to n are equal or one comes before the other. Below the lowest undecided
-- atom of a map all models above the map agree, so a model with that atom in comes before each with it out: trying in and then
-- out finds the first.
use Prim.Native.Nat.{ℕ, zero, suc, ◌<◌}
use mathlib.Core.Path.{◌≡◌, sym, ◌∙◌, subst}
use mathlib.Core.Logic.{◌⊎◌, inl, inr, ⊎_elim}
use mathlib.Core.Bool.{Bool, true, false}
use mathlib.Core.List.{[], ◌∷◌}
use native.Mathlib.Omega.{arith}
use native.Mathlib.Nat.{eq-or-lt_of_le, le_of_suc-le-suc, not-suc-le-zero}
use lib.Dec.{T, T_not}
use Rattle.rules.specs.Rule.{Sheet, Within}
use Rattle.rules.specs.Stable.{Set, outside, Before, FirstOf, First, Model}
use Rattle.rules.specs.Map.{Map, Holding, Over, IsMap, signed, want, is, total}
use Rattle.rules.specs.Forcing.{Closed, Least, Contradiction, computed}
use Rattle.rules.specs.Inner.Search.{ModelOver, OnSide, Branch}
use Rattle.rules.proofs.Fits.{Numbered}
use Rattle.rules.proofs.Tests.{eq_T, ne_T, T_ne, T_true, T_false, decided, order}
use Rattle.rules.proofs.Inside.{within?}
use Rattle.rules.proofs.Maps.{sides, decided_within, want_apart, ⊑_trans}
use Rattle.rules.proofs.Total.{total_in, total_out, in_total, out_total, stable_within, closed_stable}
use Rattle.rules.proofs.Least.{over_one, over_at}
use Rattle.rules.proofs.Models.{model_closed, model_holding, holding_agrees}

-- the lowest undecided atom: every atom before it is decided
pub record Lowest (n : ℕ) (M : Map) (a : ℕ) : Type 0 where
  pub within : Within n a
  pub undecided : M a ≡ 0
  pub lower : (b : ℕ) → Within n b → b < a → M b ≡ 0 → ⊥

-- where two sets differ first, below a bound
pub differ :
    (S S' : Set) (k : ℕ) → ((a : ℕ) → a < k → S a ≡ S' a) ⊎ (Before S S' ⊎ Before S' S)
differ S S' zero = inl (λ a h. absurd (not-suc-le-zero h))
differ S S' (suc k) = step (differ S S' k)
  where
    here : ((a : ℕ) → a < k → S a ≡ S' a) → T (S k) ⊎ T (outside S k) → T (S' k) ⊎ T (outside S' k) → ((a : ℕ) → a < suc k → S a ≡ S' a) ⊎ (Before S S' ⊎ Before S' S)
    here f (inl t) (inr u) = inr (inl (record { at = k; here = t; there = u; same = f }))
    here f (inr t) (inl u) = inr (inr (record { at = k; here = u; there = t; same = λ a h. sym (f a h) }))
    here f (inl t) (inl u) = inl (λ a h. ⊎_elim (λ (e : a ≡ k). subst (λ (x : ℕ). S x ≡ S' x) (sym e) (T_true (S k) t ∙ sym (T_true (S' k) u))) (λ (l : a < k). f a l) (eq-or-lt_of_le (le_of_suc-le-suc h)))
    here f (inr t) (inr u) = inl (λ a h. ⊎_elim (λ (e : a ≡ k). subst (λ (x : ℕ). S x ≡ S' x) (sym e) (T_false (S k) (T_not (S k) t) ∙ sym (T_false (S' k) (T_not (S' k) u)))) (λ (l : a < k). f a l) (eq-or-lt_of_le (le_of_suc-le-suc h)))

    step : ((a : ℕ) → a < k → S a ≡ S' a) ⊎ (Before S S' ⊎ Before S' S) → ((a : ℕ) → a < suc k → S a ≡ S' a) ⊎ (Before S S' ⊎ Before S' S)
    step (inl f) = here f (decided (S k)) (decided (S' k))
    step (inr b) = inr b

pub first_same :
    (Q Q' : Set → Type 0) → ((X : Set) → Q X → Q' X) → ((X : Set) → Q' X → Q X) → {S : Set} → FirstOf Q S → FirstOf Q' S
first_same Q Q' f g {S} l = record { is = f S l.is; first = λ X q b. l.first X (g X q) b }

-- the first of sets of atoms up to n is unique
pub first_of_unique :
    {Q : Set → Type 0} (n : ℕ) → ((S : Set) → Q S → (a : ℕ) → T (S a) → Within n a) → {S S' : Set} → FirstOf Q S → FirstOf Q S'
    → (a : ℕ) → S a ≡ S' a
first_of_unique {Q} n within {S} {S'} f f' a = step (differ S S' (suc n))
  where
    beyond : (X : Set) → Q X → (Within n a → ⊥) → X a ≡ false
    beyond X q o = T_false (X a) (λ t. o (within X q a t))

    step : ((b : ℕ) → b < suc n → S b ≡ S' b) ⊎ (Before S S' ⊎ Before S' S) → S a ≡ S' a
    step (inl g) =
        ⊎_elim
        (λ (w : Within n a). g a (omega (arith, w.high)))
        (λ o. beyond S f.is o ∙ sym (beyond S' f'.is o))
        (within? n a)
    step (inr (inl b)) = absurd (f'.first S f.is b)
    step (inr (inr b)) = absurd (f.first S' f'.is b)

pub first_unique : {sh : Sheet} → Numbered sh → {S S' : Set} → First sh S → First sh S' → (a : ℕ) → S a ≡ S' a
first_unique {sh} ok = first_of_unique {Q = Model sh} sh.atoms (λ S md. stable_within ok.rules md.stable)

on_total : (n : ℕ) (s : Bool) (X : Set) (a : ℕ) → Within n a → OnSide s X a → total n X a ≡ want s
on_total n true X a w t = total_in X w t
on_total n false X a w t = total_out X w t

total_on : (n : ℕ) (s : Bool) (X : Set) (a : ℕ) → total n X a ≡ want s → OnSide s X a
total_on n true X a e = in_total n a X e
total_on n false X a e = out_total n a X e

module _ {sh : Sheet} (ok : Numbered sh) where
  abbrev n : ℕ
  n = sh.atoms

  -- a decided atom is on that side in every model above
  above_in : {M : Map} {S : Set} → ModelOver sh M S → (a : ℕ) → M a ≡ 1 → T (S a)
  above_in {S = S} q a e = in_total n a S (q.1.keeps true a e)

  above_out : {M : Map} {S : Set} → ModelOver sh M S → (a : ℕ) → M a ≡ 2 → T (outside S a)
  above_out {S = S} q a e = out_total n a S (q.1.keeps false a e)

  module _ {M : Map} (mp : IsMap n M) {a : ℕ} (low : Lowest n M a) where
    -- models above the map agree before its lowest undecided atom
    agree : {S S' : Set} → ModelOver sh M S → ModelOver sh M S' → (b : ℕ) → b < a → T (S b) → T (outside S' b) → ⊥
    agree {S} {S'} q q' b l t u = step (sides (M b) (mp.sides b) true)
      where
        step : (M b ≡ 0) ⊎ ((M b ≡ 1) ⊎ (M b ≡ 2)) → ⊥
        step (inl e) = low.lower b (stable_within ok.rules q.0.stable b t) l e
        step (inr (inl e)) = T_not (S' b) u (above_in q' b e)
        step (inr (inr e)) = T_not (S b) (above_out q b e) t

    -- with the atom in, where there is such a model
    pub try_in : {S : Set} → FirstOf (Branch sh M a true) S → FirstOf (ModelOver sh M) S
    try_in {S} f = record { is = f.is.0; first = earlier }
      where
        earlier : (X : Set) → ModelOver sh M X → Before X S → ⊥
        earlier X q b = case (order b.at a)
          where
            case : (b.at < a) ⊎ ((b.at ≡ a) ⊎ (a < b.at)) → ⊥
            case (inl l) = agree q f.is.0 b.at l b.here b.there
            case (inr (inl e)) = T_not (S a) (subst (λ (x : ℕ). T (outside S x)) e b.there) f.is.1
            case (inr (inr l)) = f.first X (q, subst T (sym (b.same a l)) f.is.1) b

    -- with the atom out, where no model has it in
    pub try_out :
        ((X : Set) → Branch sh M a true X → ⊥) → {S : Set} → FirstOf (Branch sh M a false) S → FirstOf (ModelOver sh M) S
    try_out none {S} f =
        record {
          is = f.is.0;
          first =
              λ X q b. ⊎_elim (λ (t : T (X a)). none X (q, t)) (λ (u : T (outside X a)). f.first X (q, u) b) (decided (X a));
        }

    pub try_none :
        ((X : Set) → Branch sh M a true X → ⊥) → ((X : Set) → Branch sh M a false X → ⊥) → (X : Set) → ModelOver sh M X → ⊥
    try_none f g X q = ⊎_elim (λ (t : T (X a)). f X (q, t)) (λ (u : T (outside X a)). g X (q, u)) (decided (X a))

  -- a guess: the models above its closed map are those above the map before it that have the literal
  module _ (M : Map) (a : ℕ) (w : Within n a) (s : Bool) where
    guessed : (X : Set) → Branch sh M a s X → Over M (signed s a ∷ []) (total n X)
    guessed X q = over_one s a q.0.1 (on_total n s X a w q.1)

    module _ {M₁ : Map} (l : Least (Closed sh.rules n) (Over M (signed s a ∷ [])) M₁) where
      onto_branch : (X : Set) → ModelOver sh M₁ X → Branch sh M a s X
      onto_branch X q = (
        (q.0, ⊑_trans l.holding.above q.1),
        total_on n s X a (q.1.keeps s a (over_at s a l.holding)),
      )

      from_branch : (X : Set) → Branch sh M a s X → ModelOver sh M₁ X
      from_branch X q = (q.0.0, l.below (total n X) (model_closed ok q.0.0) (guessed X q))

      pub branch_first : {S : Set} → FirstOf (ModelOver sh M₁) S → FirstOf (Branch sh M a s) S
      branch_first = first_same (ModelOver sh M₁) (Branch sh M a s) onto_branch from_branch

      pub branch_none : ((X : Set) → ModelOver sh M₁ X → ⊥) → (X : Set) → Branch sh M a s X → ⊥
      branch_none none X q = none X (from_branch X q)

    -- no model has a literal that ends in contradiction
    pub branch_clash : Contradiction (Closed sh.rules n) (Over M (signed s a ∷ [])) → (X : Set) → Branch sh M a s X → ⊥
    branch_clash c X q = c (total n X) (model_closed ok q.0.0) (guessed X q)

  -- a closed map with no undecided atom is its own first model
  pub leaf :
      {M : Map} → Closed sh.rules n M → ((a : ℕ) → Within n a → M a ≡ 0 → ⊥) → Holding (computed sh) M
      → FirstOf (ModelOver sh M) (is 1 M)
  leaf {M} x all h = record { is = (md, record { keeps = keep }); first = earlier }
    where
      md : Model sh (is 1 M)
      md = record { stable = closed_stable ok.rules x all; agrees = holding_agrees sh M h }

      keep : (s : Bool) (a : ℕ) → M a ≡ want s → total n (is 1 M) a ≡ want s
      keep true a e = total_in (is 1 M) (decided_within x.is_map true a e) (eq_T e)
      keep false a e = total_out (is 1 M) (decided_within x.is_map false a e) (ne_T (λ o. want_apart true (sym o ∙ e)))

      earlier : (X : Set) → ModelOver sh M X → Before X (is 1 M) → ⊥
      earlier X q b = step (sides (M b.at) (x.is_map.sides b.at) true)
        where
          step : (M b.at ≡ 0) ⊎ ((M b.at ≡ 1) ⊎ (M b.at ≡ 2)) → ⊥
          step (inl e) = all b.at (stable_within ok.rules q.0.stable b.at b.here) e
          step (inr (inl e)) = T_ne b.there e
          step (inr (inr e)) = T_not (X b.at) (above_out q b.at e) b.here

  -- above the least map that holds the compute lists stand all agreeing stable models
  module _ {M : Map} (l : Least (Closed sh.rules n) (Holding (computed sh)) M) where
    pub all_above : (X : Set) → Model sh X → ModelOver sh M X
    all_above X md = (md, l.below (total n X) (model_closed ok md) (model_holding ok md))

    pub first_above : {S : Set} → FirstOf (ModelOver sh M) S → First sh S
    first_above f = first_same (ModelOver sh M) (Model sh) (λ X q. q.0) all_above f

  pub none_at_all : Contradiction (Closed sh.rules n) (Holding (computed sh)) → (X : Set) → Model sh X → ⊥
  none_at_all c X md = c (total n X) (model_closed ok md) (model_holding ok md)
