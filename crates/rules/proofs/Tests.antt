-- Tests on numbers and on lists as facts, and back.
use Prim.Native.Nat.{ℕ, ◌≤◌, ◌<◌}
use mathlib.Core.Path.{◌≡◌, refl, sym, subst}
use mathlib.Core.Logic.{◌⊎◌, inl, inr, ⊎_elim}
use mathlib.Core.Bool.{Bool, true, false, not, ◌&&◌, ◌||◌, beq}
use mathlib.Core.List.{List, [], ◌∷◌, Memᴰ}
use native.Mathlib.Nat.{eq-or-lt_of_le}
use lib.Dec.{T, eqb, ltb, eqb→eq, eqb_refl, not_T, T_not, ltb→lt, nltb→le}
use Rattle.rules.specs.Sum.{has}

pub eq_T : {a b : ℕ} → a ≡ b → T (eqb a b)
eq_T {a} e = subst (λ (x : ℕ). T (eqb a x)) e (eqb_refl a)

pub T_eq : {a b : ℕ} → T (eqb a b) → a ≡ b
T_eq {a} {b} t = eqb→eq a b t

pub ne_T : {a b : ℕ} → (a ≡ b → ⊥) → T (not (eqb a b))
ne_T {a} {b} f = not_T (eqb a b) (λ t. f (T_eq t))

pub T_ne : {a b : ℕ} → T (not (eqb a b)) → a ≡ b → ⊥
T_ne {a} {b} t e = T_not (eqb a b) t (eq_T e)

pub T_true : (b : Bool) → T b → b ≡ true
T_true true t = refl
T_true false t = absurd t

pub T_false : (b : Bool) → (T b → ⊥) → b ≡ false
T_false true f = absurd (f tt)
T_false false f = refl

pub true_T : {b : Bool} → b ≡ true → T b
true_T e = subst T (sym e) tt

-- two tests that pass together are equal
pub T_same : (p q : Bool) → (T p → T q) → (T q → T p) → p ≡ q
T_same true true f g = refl
T_same true false f g = absurd (f tt)
T_same false true f g = absurd (g tt)
T_same false false f g = refl

pub beq_eq : (a b : Bool) → T (beq a b) → a ≡ b
beq_eq true true t = refl
beq_eq true false t = absurd t
beq_eq false true t = absurd t
beq_eq false false t = refl

pub eq_beq : (a b : Bool) → a ≡ b → T (beq a b)
eq_beq true b e = subst (λ (x : Bool). T (beq true x)) e tt
eq_beq false b e = subst (λ (x : Bool). T (beq false x)) e tt

pub and_T : (a b : Bool) → T a → T b → T (a && b)
and_T true b s t = t
and_T false b s t = s

pub T_and_left : (a b : Bool) → T (a && b) → T a
T_and_left true b t = tt
T_and_left false b t = t

pub T_and_right : (a b : Bool) → T (a && b) → T b
T_and_right true b t = t
T_and_right false b t = absurd t

pub double : (b : Bool) → T b → T (not (not b))
double true t = tt
double false t = t

-- a test passes or fails
pub decided : (b : Bool) → T b ⊎ T (not b)
decided true = inl tt
decided false = inr tt

-- below n, or not
pub below? : (i n : ℕ) → (i < n) ⊎ (n ≤ i)
below? i n =
    ⊎_elim
    (λ (t : T (ltb i n)). inl (ltb→lt i n t))
    (λ (t : T (not (ltb i n))). inr (nltb→le i n t))
    (decided (ltb i n))

pub T_or : (a b : Bool) → T (a || b) → T a ⊎ T b
T_or true b t = inl tt
T_or false b t = inr t

pub or_left : (a b : Bool) → T a → T (a || b)
or_left true b t = tt
or_left false b t = absurd t

pub or_right : (a b : Bool) → T b → T (a || b)
or_right true b t = tt
or_right false b t = t

-- a number that a list has is an element of it
pub has_mem : (a : ℕ) (xs : List ℕ) → T (has a xs) → Memᴰ a xs
unfolding has
has_mem a [] t = absurd t
has_mem a (x ∷ xs) t =
    ⊎_elim
    (λ (h : T (eqb a x)). Memᴰ.head (T_eq h))
    (λ (h : T (has a xs)). Memᴰ.tail (has_mem a xs h))
    (T_or (eqb a x) (has a xs) t)

pub mem_has : {a : ℕ} {xs : List ℕ} → Memᴰ a xs → T (has a xs)
unfolding has
mem_has {a} (Memᴰ.head {x = x} {xs = xs} e) = or_left (eqb a x) (has a xs) (eq_T e)
mem_has {a} (Memᴰ.tail {x = x} {xs = xs} m) = or_right (eqb a x) (has a xs) (mem_has m)

pub order : (x y : ℕ) → (x < y) ⊎ ((x ≡ y) ⊎ (y < x))
order x y = step (decided (ltb x y))
  where
    step : T (ltb x y) ⊎ T (not (ltb x y)) → (x < y) ⊎ ((x ≡ y) ⊎ (y < x))
    step (inl t) = inl (ltb→lt x y t)
    step (inr t) = inr (⊎_elim (λ (e : y ≡ x). inl (sym e)) (λ (l : y < x). inr l) (eq-or-lt_of_le (nltb→le x y t)))
