-- The weighted sum, once for every list, test and weight: it grows with its test, by at least the weight of an element that the
-- larger test adds; it is at most the heaviest weight for each element; and a count of 1 has one element. By induction on the list.
use Prim.Native.Nat.{ℕ, ◌+◌, ◌*◌, ◌≤◌}
use mathlib.Core.Path.{◌≡◌, refl, ap, ap₂, sym, ◌∙◌, subst}
use mathlib.Core.Logic.{◌⊎◌, inl, inr, ⊎_elim}
use mathlib.Core.Bool.{Bool, true, false, not}
use mathlib.Core.List.Memᴰ
use mathlib.Core.List.{List, [], ◌∷◌, Memᴰ}
use native.Mathlib.Omega.{arith}
use lib.ListN.{length}
use lib.Dec.{T}
use Rattle.rules.specs.Sum.{counted, tally}

-- what a weight counts for is at most the weight
pub counted_most : (b : Bool) (w : ℕ) → counted b w ≤ w
counted_most true w = omega arith
counted_most false w = omega arith

pub counted_mono : (p q : Bool) (w : ℕ) → (T p → T q) → counted p w ≤ counted q w
counted_mono true true w f = omega arith
counted_mono true false w f = absurd (f tt)
counted_mono false true w f = omega arith
counted_mono false false w f = omega arith

counted_more : (p q : Bool) (w : ℕ) → T (not p) → T q → counted p w + w ≤ counted q w
counted_more true q w np tq = absurd np
counted_more false true w np tq = omega arith
counted_more false false w np tq = absurd tq

module _ {ℓ} {A : Type ℓ} where
  -- the sum grows with its test
  pub tally_mono :
      (p q : A → Bool) (w : A → ℕ) (xs : List A) → ((x : A) → Memᴰ x xs → T (p x) → T (q x))
      → tally p w xs ≤ tally q w xs
  unfolding tally
  tally_mono p q w [] f = omega arith
  tally_mono p q w (x ∷ xs) f =
      omega
      (arith, counted_mono (p x) (q x) (w x) (f x (Memᴰ.head refl)), tally_mono p q w xs (λ y m. f y (Memᴰ.tail m)))

  -- no sum passes the heaviest weight for each element
  pub tally_most :
      (most : ℕ) (p : A → Bool) (w : A → ℕ) (xs : List A) → ((x : A) → Memᴰ x xs → w x ≤ most)
      → tally p w xs ≤ length xs * most
  unfolding tally
  tally_most most p w [] f = omega arith
  tally_most most p w (x ∷ xs) f =
      omega
      (arith, counted_most (p x) (w x), f x (Memᴰ.head refl), tally_most most p w xs (λ y m. f y (Memᴰ.tail m)))

  -- one element more adds at least its weight
  pub tally_more :
      (p q : A → Bool) (w : A → ℕ) (xs : List A) → ((x : A) → Memᴰ x xs → T (p x) → T (q x))
      → (y : A) → Memᴰ y xs → T (not (p y)) → T (q y) → tally p w xs + w y ≤ tally q w xs
  unfolding tally
  tally_more p q w [] f y m np tq = absurd (Memᴰ.not-nil m)
  tally_more p q w (x ∷ xs) f y m np tq = step (Memᴰ.cases_cons m) (tally_more p q w xs (λ z k. f z (Memᴰ.tail k)) y)
    where
      here : y ≡ x → tally p w (x ∷ xs) + w y ≤ tally q w (x ∷ xs)
      here e =
          let
          a : counted (p x) (w x) + w x ≤ counted (q x) (w x)
          = counted_more (p x) (q x) (w x) (subst (λ (z : A). T (not (p z))) e np) (subst (λ (z : A). T (q z)) e tq)
          in
          let b : w y ≡ w x = ap w e in
          omega (arith, a, b, tally_mono p q w xs (λ z k. f z (Memᴰ.tail k)))

      step :
          (y ≡ x) ⊎ Memᴰ y xs → (Memᴰ y xs → T (not (p y)) → T (q y) → tally p w xs + w y ≤ tally q w xs)
          → tally p w (x ∷ xs) + w y ≤ tally q w (x ∷ xs)
      step (inl e) rest = here e
      step (inr k) rest = omega (arith, rest k np tq, counted_mono (p x) (q x) (w x) (f x (Memᴰ.head refl)))

  -- equal tests, equal sums
  pub tally_same :
      (p q : A → Bool) (w : A → ℕ) (xs : List A) → ((x : A) → Memᴰ x xs → p x ≡ q x) → tally p w xs ≡ tally q w xs
  unfolding tally
  tally_same p q w [] f = refl
  tally_same p q w (x ∷ xs) f =
      ap₂ ◌+◌ (ap (λ (b : Bool). counted b (w x)) (f x (Memᴰ.head refl))) (tally_same p q w xs (λ y m. f y (Memᴰ.tail m)))

  abbrev pub count : (A → Bool) → List A → ℕ
  count p xs = tally p (λ _. 1) xs

  -- an element that passes counts
  pub count_some : (p : A → Bool) (xs : List A) (x : A) → Memᴰ x xs → T (p x) → 1 ≤ count p xs
  unfolding tally
  count_some p [] x m t = absurd (Memᴰ.not-nil m)
  count_some p (y ∷ ys) x m t = step (Memᴰ.cases_cons m) (count_some p ys x)
    where
      now : (b : Bool) → T b → 1 ≤ counted b 1 + count p ys
      now true s = omega arith
      now false s = absurd s

      step : (x ≡ y) ⊎ Memᴰ x ys → (Memᴰ x ys → T (p x) → 1 ≤ count p ys) → 1 ≤ count p (y ∷ ys)
      step (inl e) rest = now (p y) (subst (λ (z : A). T (p z)) e t)
      step (inr k) rest = omega (arith, rest k t)

  -- where the count is 1, those that pass are one element
  pub count_one :
      (p : A → Bool) (xs : List A) → count p xs ≤ 1 → (x y : A) → Memᴰ x xs → Memᴰ y xs → T (p x) → T (p y) → x ≡ y
  unfolding tally
  count_one p [] c x y mx my tx ty = absurd (Memᴰ.not-nil mx)
  count_one p (z ∷ zs) c x y mx my tx ty = step (Memᴰ.cases_cons mx) (Memᴰ.cases_cons my) (count_one p zs)
    where
      none : {v : A} → T (p z) → Memᴰ v zs → T (p v) → ⊥
      none {v} tz mv tv = go (p z) tz c (count_some p zs v mv tv)
        where
          go : (b : Bool) → T b → counted b 1 + count p zs ≤ 1 → 1 ≤ count p zs → ⊥
          go true s l k = omega arith
          go false s l k = s

      at : {v : A} → v ≡ z → T (p v) → T (p z)
      at e t = subst (λ (u : A). T (p u)) e t

      step :
          (x ≡ z) ⊎ Memᴰ x zs → (y ≡ z) ⊎ Memᴰ y zs
          → (count p zs ≤ 1 → (u v : A) → Memᴰ u zs → Memᴰ v zs → T (p u) → T (p v) → u ≡ v) → x ≡ y
      step (inl e) (inl f) rest = e ∙ sym f
      step (inl e) (inr k) rest = absurd (none (at e tx) k ty)
      step (inr k) (inl f) rest = absurd (none (at f ty) k tx)
      step (inr k) (inr l) rest = rest (omega arith) x y k l tx ty

  -- one that passes, or none does
  pub find :
      (p : A → Bool) (xs : List A) → ((x : A) × Memᴰ x xs × T (p x)) ⊎ ((x : A) → Memᴰ x xs → T (p x) → ⊥)
  find p [] = inr (λ x m t. Memᴰ.not-nil m)
  find p (x ∷ xs) = step (p x) refl (find p xs)
    where
      step :
          (b : Bool) → p x ≡ b → ((y : A) × Memᴰ y xs × T (p y)) ⊎ ((y : A) → Memᴰ y xs → T (p y) → ⊥)
          → ((y : A) × Memᴰ y (x ∷ xs) × T (p y)) ⊎ ((y : A) → Memᴰ y (x ∷ xs) → T (p y) → ⊥)
      step true e rest = inl (x, Memᴰ.head refl, subst T (sym e) tt)
      step false e (inl f) = inl (f.0, Memᴰ.tail f.1, f.2)
      step false e (inr g) =
          inr
          (λ y m t.
          ⊎_elim
          (λ (q : y ≡ x). subst T e (subst (λ (z : A). T (p z)) q t))
          (λ (k : Memᴰ y xs). g y k t)
          (Memᴰ.cases_cons m))
