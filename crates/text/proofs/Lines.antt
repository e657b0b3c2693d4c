-- The laws of a line: its digits mean the number, and it has one line feed.
use Prim.Native.Nat.{ℕ, zero, suc, ◌+◌, ◌*◌, ◌/◌, ◌%◌, ◌≤◌, ◌<◌}
use mathlib.Core.Path.{◌≡◌, refl, sym, ap, ◌∙◌}
use mathlib.Core.Logic.{◌⊎◌, inl, inr, ⊎_elim}
use mathlib.Core.Bool.{Bool, true, false, cond}
use mathlib.Core.List.{List, [], ◌∷◌, ◌++◌, append_assoc, append-nil}
use native.Mathlib.Omega.{arith}
use native.Mathlib.Numerals.{add-one}
use native.Mathlib.Nat.{suc-mul}
use lib.ListN.{length, length-append}
use lib.Dec.{ltb}
use borrow.Author.Tests.{lt-ltb, le-ltb, ltb-true, ltb-false}
use Rattle.text.specs.Line.{digit, digits_in, digits, spaced, spaced_all, is_in, in_atom, in_atoms}

pub less : (x y : ℕ) → (x < y) ⊎ (y ≤ x)
less x y = by (ltb x y) refl
  where
    by : (b : Bool) → ltb x y ≡ b → (x < y) ⊎ (y ≤ x)
    by true e = inl (ltb-true x y e)
    by false e = inr (ltb-false x y e)

abbrev last : ℕ → ℕ → List ℕ
last k x = digits_in k x (ltb x 10)

small : (k x : ℕ) → x < 10 → last (suc k) x ≡ digit x ∷ []
unfolding digits_in
small k x h = simp (lt-ltb _ _ h)

large : (k x : ℕ) → 10 ≤ x → last (suc k) x ≡ last k (x / 10) ++ (digit (x % 10) ∷ [])
unfolding digits_in
large k x h = simp (le-ltb _ _ h)

-- as many digits as the number has are enough
enough : (k l x : ℕ) → x < k → x < l → last k x ≡ last l x
enough zero l x h i = absurd (omega arith)
enough (suc k) zero x h i = absurd (omega arith)
enough (suc k) (suc l) x h i =
    ⊎_elim
    (λ s. small k x s ∙ sym (small l x s))
    (λ s. large k x s ∙ ap (λ (ds : List ℕ). ds ++ (digit (x % 10) ∷ [])) (enough k l (x / 10) (omega arith) (omega arith)) ∙ sym (large l x s))
    (less x 10)

pub digits_small : (x : ℕ) → x < 10 → digits x ≡ digit x ∷ []
unfolding digits
digits_small x h = small x x h

pub digits_large : (x : ℕ) → 10 ≤ x → digits x ≡ digits (x / 10) ++ (digit (x % 10) ∷ [])
unfolding digits
digits_large x h =
    large x x h ∙ ap (λ (ds : List ℕ). ds ++ (digit (x % 10) ∷ [])) (enough x (suc (x / 10)) (x / 10) (omega arith) (omega arith))

longer : (k x : ℕ) → 10 ≤ x → length (last (suc k) x) ≡ length (last k (x / 10)) + 1
longer k x h = ap length (large k x h) ∙ length-append (last k (x / 10)) (digit (x % 10) ∷ [])

some : (k x : ℕ) → 1 ≤ length (last (suc k) x)
some k x = ⊎_elim (λ h. omega (arith, ap length (small k x h))) (λ h. omega (arith, longer k x h)) (less x 10)

-- a larger number has as many digits or more
grows : (k l x y : ℕ) → x < k → y < l → x ≤ y → length (last k x) ≤ length (last l y)
grows zero l x y h i o = absurd (omega arith)
grows (suc k) zero x y h i o = absurd (omega arith)
grows (suc k) (suc l) x y h i o =
    ⊎_elim
    (λ s. omega (arith, ap length (small k x s), some l y))
    (λ s. omega (
      arith,
      longer k x s,
      longer l y (omega arith),
      grows k l (x / 10) (y / 10) (omega arith) (omega arith) (omega arith),
    ))
    (less x 10)

pub spaced_grows : (x y : ℕ) → x ≤ y → length (spaced x) ≤ length (spaced y)
unfolding spaced digits
spaced_grows x y h = omega (arith, grows (suc x) (suc y) x y (omega arith) (omega arith) h)

pub spaced_join : (xs ys : List ℕ) → spaced_all (xs ++ ys) ≡ spaced_all xs ++ spaced_all ys
unfolding spaced_all
spaced_join [] ys = refl
spaced_join (x ∷ xs) ys = ap (λ (t : List ℕ). spaced x ++ t) (spaced_join xs ys) ∙ sym (append_assoc (spaced x) (spaced_all xs) (spaced_all ys))

-- the texts of the atoms after one index more: one atom more, where it is in, and else the same
pub atom_in : (m : List ℕ) (i : ℕ) → is_in m i ≡ true → spaced_all (in_atoms (i + 1) m) ≡ spaced_all (in_atoms i m) ++ spaced (i + 1)
unfolding in_atoms spaced_all
atom_in m i e = rw (add-one i) (simp (spaced_join, e, append-nil))

pub atom_out : (m : List ℕ) (i : ℕ) → is_in m i ≡ false → spaced_all (in_atoms (i + 1) m) ≡ spaced_all (in_atoms i m)
unfolding in_atoms
atom_out m i e = rw (add-one i) (simp (e, append-nil))

-- the text of an atom, if it is in, is no longer than its number after a space
atom_fits_law : (b : Bool) (a : ℕ) → length (spaced_all (cond b (a ∷ []) [])) ≤ length (spaced a)
unfolding spaced_all
atom_fits_law true a = omega (arith, length-append (spaced a) [])
atom_fits_law false a = omega arith

pub all_fit : (m : List ℕ) (i n : ℕ) → i ≤ n → length (spaced_all (in_atoms i m)) ≤ i * length (spaced n)
unfolding in_atoms spaced_all
all_fit m zero n h = omega arith
all_fit m (suc i) n h =
    let joined : length (spaced_all (in_atoms i m ++ in_atom m i)) ≡ length (spaced_all (in_atoms i m)) + length (spaced_all (in_atom m i)) =
    ap length (spaced_join (in_atoms i m) (in_atom m i)) ∙ length-append (spaced_all (in_atoms i m)) (spaced_all (in_atom m i)) in
    omega (
      arith,
      joined,
      all_fit m i n (omega arith),
      atom_fits_law (is_in m i) (suc i),
      spaced_grows (suc i) n h,
      suc-mul i (length (spaced n)),
    )
