-- Membership by index, through map and a change of order; and lists of the same elements.
use Prim.Native.Nat.{ℕ, zero, suc, ◌<◌}
use mathlib.Core.Path.{◌≡◌, refl, sym, ◌∙◌, ap, subst}
use mathlib.Core.Logic.{◌⊎◌, inl, inr, ⊎_elim}
use mathlib.Core.List.Memᴰ
use mathlib.Core.List.Permᴰ
use mathlib.Core.List.{List, [], ◌∷◌, map, Memᴰ, Permᴰ}
use native.Mathlib.Omega.{arith}
use lib.ListN.{length, get_or}
use Rattle.rules.specs.Rule.{SameSet}

module _ {ℓ} {A B : Type ℓ} (f : A → B) where
  pub map_mem : (xs : List A) {y : B} → Memᴰ y (map f xs) → (x : A) × Memᴰ x xs × (y ≡ f x)
  map_mem [] m = absurd (Memᴰ.not-nil m)
  map_mem (x ∷ xs) {y} m = step (Memᴰ.cases_cons m) (map_mem xs {y = y})
    where
      step :
          (y ≡ f x) ⊎ Memᴰ y (map f xs) → (Memᴰ y (map f xs) → (z : A) × Memᴰ z xs × (y ≡ f z))
          → (z : A) × Memᴰ z (x ∷ xs) × (y ≡ f z)
      step (inl e) rest = (x, Memᴰ.head refl, e)
      step (inr k) rest = let t = rest k in (t.0, Memᴰ.tail t.1, t.2)

  pub mem_map : {x : A} {xs : List A} → Memᴰ x xs → Memᴰ (f x) (map f xs)
  mem_map (Memᴰ.head e) = Memᴰ.head (ap f e)
  mem_map (Memᴰ.tail m) = Memᴰ.tail (mem_map m)

module _ {ℓ} {A : Type ℓ} where
  pub index_mem : (xs : List A) (i : ℕ) (other : A) → i < length xs → Memᴰ (get_or xs i other) xs
  index_mem [] i other h = absurd (omega arith)
  index_mem (x ∷ xs) zero other h = Memᴰ.head refl
  index_mem (x ∷ xs) (suc i) other h = Memᴰ.tail (index_mem xs i other (omega arith))

  pub mem_index : (other : A) {x : A} {xs : List A} → Memᴰ x xs → (i : ℕ) × (i < length xs) × (get_or xs i other ≡ x)
  mem_index other (Memᴰ.head e) = (0, omega arith, sym e)
  mem_index other (Memᴰ.tail m) = let t = mem_index other m in (suc t.0, omega (arith, t.1), t.2)

  pub perm_mem : {x : A} {xs ys : List A} → Permᴰ xs ys → Memᴰ x xs → Memᴰ x ys
  perm_mem Permᴰ.nil m = m
  perm_mem {x} (Permᴰ.cons {a = a} {b = b} {l₁ = l₁} {l₂ = l₂} e d) m = step (perm_mem d) (Memᴰ.cases_cons m)
    where
      step : (Memᴰ x l₁ → Memᴰ x l₂) → (x ≡ a) ⊎ Memᴰ x l₁ → Memᴰ x (b ∷ l₂)
      step rest (inl k) = Memᴰ.head (k ∙ e)
      step rest (inr k) = Memᴰ.tail (rest k)
  perm_mem {x} (Permᴰ.swap {a = a} {b = b} {a' = a'} {b' = b'} {l = l} e₁ e₂) m = step (Memᴰ.cases_cons m)
    where
      later : (x ≡ b) ⊎ Memᴰ x l → Memᴰ x (a' ∷ b' ∷ l)
      later (inl k) = Memᴰ.head (k ∙ e₂)
      later (inr k) = Memᴰ.tail (Memᴰ.tail k)

      step : (x ≡ a) ⊎ Memᴰ x (b ∷ l) → Memᴰ x (a' ∷ b' ∷ l)
      step (inl k) = Memᴰ.tail (Memᴰ.head (k ∙ e₁))
      step (inr k) = later (Memᴰ.cases_cons k)
  perm_mem (Permᴰ.trans d₁ d₂) m = perm_mem d₂ (perm_mem d₁ m)

module _ {A : Type 0} where
  pub same_sym : {xs ys : List A} → SameSet xs ys → SameSet ys xs
  same_sym k = record { onto = k.back; back = k.onto }

  -- lists that differ only in order
  pub permuted_same : {xs ys : List A} → Permᴰ xs ys → SameSet xs ys
  permuted_same d = record { onto = λ x m. perm_mem d m; back = λ x m. perm_mem (Permᴰ.symm d) m }

  -- an element that stands once more
  pub repeated_same : {x : A} {xs : List A} → Memᴰ x xs → SameSet (x ∷ xs) xs
  repeated_same {x} {xs} m =
      record {
        onto =
            λ y i.
            ⊎_elim (λ (e : y ≡ x). subst (λ (z : A). Memᴰ z xs) (sym e) m) (λ (j : Memᴰ y xs). j) (Memᴰ.cases_cons i);
        back = λ y i. Memᴰ.tail i;
      }
