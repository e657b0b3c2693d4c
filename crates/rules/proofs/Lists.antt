-- Lists that are made by a test, a choice or one after the other: what is in them.
use Prim.Native.Nat.{ℕ, zero, suc, ◌+◌, ◌≤◌, ◌<◌}
use mathlib.Core.Path.{◌≡◌, refl, sym, ◌∙◌, subst, ap}
use mathlib.Core.Logic.{◌⊎◌, inl, inr, ⊎_elim}
use mathlib.Core.Bool.{Bool, true, false, not, ◌||◌, ◌&&◌, cond}
use mathlib.Core.List.Memᴰ
use mathlib.Core.List.{List, [], ◌∷◌, ◌++◌, Memᴰ}
use native.Mathlib.Omega.{arith}
use native.Mathlib.Nat.{eq-or-lt_of_le}
use lib.ListN.{length}
use lib.Dec.{T}
use Rattle.rules.specs.Rule.{Within}
use Rattle.rules.specs.Shown.Paper.{those}
use Rattle.rules.proofs.Tests.{T_or, or_left, or_right, and_T, T_and_left, T_and_right}

module _ {A : Type 0} where
  pub mem_length : {x : A} {xs : List A} → Memᴰ x xs → 1 ≤ length xs
  mem_length (Memᴰ.head e) = omega arith
  mem_length (Memᴰ.tail m) = omega (arith, mem_length m)

  -- does an element of the list pass the test?
  abbrev pub some : (A → Bool) → List A → Bool
  some p [] = false
  some p (x ∷ xs) = p x || some p xs

  pub some_T : (p : A → Bool) (xs : List A) → T (some p xs) → (x : A) × Memᴰ x xs × T (p x)
  some_T p [] t = absurd t
  some_T p (x ∷ xs) t = step (T_or (p x) (some p xs) t) (some_T p xs)
    where
      step : T (p x) ⊎ T (some p xs) → (T (some p xs) → (y : A) × Memᴰ y xs × T (p y)) → (y : A) × Memᴰ y (x ∷ xs) × T (p y)
      step (inl h) rest = (x, Memᴰ.head refl, h)
      step (inr h) rest = let k = rest h in (k.0, Memᴰ.tail k.1, k.2)

  pub T_some : (p : A → Bool) {x : A} {xs : List A} → Memᴰ x xs → T (p x) → T (some p xs)
  T_some p {x} (Memᴰ.head {x = y} {xs = ys} e) t = or_left (p y) (some p ys) (subst (λ (z : A). T (p z)) e t)
  T_some p (Memᴰ.tail {x = y} {xs = ys} m) t = or_right (p y) (some p ys) (T_some p m t)

  -- does every element of the list pass the test?
  abbrev pub every : (A → Bool) → List A → Bool
  every p [] = true
  every p (x ∷ xs) = p x && every p xs

  pub every_T : (p : A → Bool) (xs : List A) → T (every p xs) → (x : A) → Memᴰ x xs → T (p x)
  every_T p [] t x m = elim m [ ]
  every_T p (y ∷ ys) t x (Memᴰ.head e) = subst (λ (z : A). T (p z)) (sym e) (T_and_left (p y) (every p ys) t)
  every_T p (y ∷ ys) t x (Memᴰ.tail m) = every_T p ys (T_and_right (p y) (every p ys) t) x m

  pub T_every : (p : A → Bool) (xs : List A) → ((x : A) → Memᴰ x xs → T (p x)) → T (every p xs)
  T_every p [] f = tt
  T_every p (x ∷ xs) f = and_T (p x) (every p xs) (f x (Memᴰ.head refl)) (T_every p xs (λ y m. f y (Memᴰ.tail m)))

  pub those_mem : (p : A → Bool) (xs : List A) {x : A} → Memᴰ x (those p xs) → Memᴰ x xs × T (p x)
  unfolding those
  those_mem p [] m = absurd (Memᴰ.not-nil m)
  those_mem p (y ∷ ys) {x} m = step (p y) refl m (those_mem p ys)
    where
      step :
          (b : Bool) → p y ≡ b → Memᴰ x (cond b (y ∷ those p ys) (those p ys)) → (Memᴰ x (those p ys) → Memᴰ x ys × T (p x))
          → Memᴰ x (y ∷ ys) × T (p x)
      step true e k rest =
          ⊎_elim
          (λ (q : x ≡ y). (Memᴰ.head q, subst T (sym (ap p q ∙ e)) tt))
          (λ (q : Memᴰ x (those p ys)). (Memᴰ.tail (rest q).0, (rest q).1))
          (Memᴰ.cases_cons k)
      step false e k rest = (Memᴰ.tail (rest k).0, (rest k).1)

  pub mem_those : (p : A → Bool) {x : A} {xs : List A} → Memᴰ x xs → T (p x) → Memᴰ x (those p xs)
  unfolding those
  mem_those p {x} (Memᴰ.head {x = y} {xs = ys} e) t = step (p y) (subst (λ (z : A). T (p z)) e t)
    where
      step : (b : Bool) → T b → Memᴰ x (cond b (y ∷ those p ys) (those p ys))
      step true s = Memᴰ.head e
      step false s = absurd s
  mem_those p {x} (Memᴰ.tail {x = y} {xs = ys} m) t = step (p y) (mem_those p m t)
    where
      step : (b : Bool) → Memᴰ x (those p ys) → Memᴰ x (cond b (y ∷ those p ys) (those p ys))
      step true k = Memᴰ.tail k
      step false k = k

  -- those that pass and those that do not are all
  pub those_split : (p : A → Bool) (xs : List A) → length (those p xs) + length (those (λ x. not (p x)) xs) ≡ length xs
  unfolding those
  those_split p [] = refl
  those_split p (x ∷ xs) = step (p x) (those_split p xs)
    where
      step :
          (b : Bool) → length (those p xs) + length (those (λ y. not (p y)) xs) ≡ length xs
          → length (cond b (x ∷ those p xs) (those p xs)) + length (cond (not b) (x ∷ those (λ y. not (p y)) xs) (those (λ y. not (p y)) xs)) ≡ suc (length xs)
      step true e = omega arith
      step false e = omega arith

-- one list after the other
module _ {A B : Type 0} where
  abbrev pub each : (A → List B) → List A → List B
  each f [] = []
  each f (x ∷ xs) = f x ++ each f xs

  pub each_mem : (f : A → List B) (xs : List A) {y : B} → Memᴰ y (each f xs) → (x : A) × Memᴰ x xs × Memᴰ y (f x)
  each_mem f [] m = absurd (Memᴰ.not-nil m)
  each_mem f (x ∷ xs) {y} m = step (Memᴰ.append_cases (f x) m) (each_mem f xs)
    where
      step :
          Memᴰ y (f x) ⊎ Memᴰ y (each f xs) → (Memᴰ y (each f xs) → (z : A) × Memᴰ z xs × Memᴰ y (f z))
          → (z : A) × Memᴰ z (x ∷ xs) × Memᴰ y (f z)
      step (inl k) rest = (x, Memᴰ.head refl, k)
      step (inr k) rest = let t = rest k in (t.0, Memᴰ.tail t.1, t.2)

  pub mem_each : (f : A → List B) {x : A} {xs : List A} {y : B} → Memᴰ x xs → Memᴰ y (f x) → Memᴰ y (each f xs)
  mem_each f {x} {y = y} (Memᴰ.head {x = z} {xs = zs} e) k =
      Memᴰ.append_left (each f zs) (subst (λ (w : A). Memᴰ y (f w)) e k)
  mem_each f (Memᴰ.tail {x = z} {xs = zs} m) k = Memᴰ.append_right (f z) (mem_each f m k)

-- a list where a test passes, and nothing where it fails
module _ {A : Type 0} where
  abbrev pub guard : Bool → List A → List A
  guard true xs = xs
  guard false xs = []

  pub guard_mem : (b : Bool) (xs : List A) {x : A} → Memᴰ x (guard b xs) → T b × Memᴰ x xs
  guard_mem true xs m = (tt, m)
  guard_mem false xs m = absurd (Memᴰ.not-nil m)

  pub mem_guard : (b : Bool) {xs : List A} {x : A} → T b → Memᴰ x xs → Memᴰ x (guard b xs)
  mem_guard true t m = m
  mem_guard false t m = absurd t

-- the numbers 1 to n, the last first
abbrev pub down_from : ℕ → List ℕ
down_from zero = []
down_from (suc n) = suc n ∷ down_from n

pub down_from_within : (n : ℕ) {a : ℕ} → Memᴰ a (down_from n) → Within n a
down_from_within zero m = absurd (Memᴰ.not-nil m)
down_from_within (suc n) {a} m = step (Memᴰ.cases_cons m) (down_from_within n)
  where
    step : (a ≡ suc n) ⊎ Memᴰ a (down_from n) → (Memᴰ a (down_from n) → Within n a) → Within (suc n) a
    step (inl e) rest = record { low = omega (arith, e); high = omega (arith, e) }
    step (inr k) rest = let w = rest k in record { low = w.low; high = omega (arith, w.high) }

pub within_up_to : (n : ℕ) {a : ℕ} → Within n a → Memᴰ a (down_from n)
within_up_to zero {a} w = absurd (omega (arith, w.low, w.high))
within_up_to (suc n) {a} w = step (eq-or-lt_of_le w.high) (within_up_to n)
  where
    step : (a ≡ suc n) ⊎ (a < suc n) → (Within n a → Memᴰ a (down_from n)) → Memᴰ a (suc n ∷ down_from n)
    step (inl e) rest = Memᴰ.head e
    step (inr l) rest = Memᴰ.tail (rest (record { low = w.low; high = omega (arith, l) }))
