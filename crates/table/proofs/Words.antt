-- A run of pairs as a list: its first pair and the rest, which pairs are in it, and what it can weigh. Each by induction on how
-- many pairs are left.
use Prim.Native.Nat.{ℕ, zero, suc, ◌+◌, ◌*◌, ◌-◌, ◌≤◌, ◌<◌}
use mathlib.Core.Path.{◌≡◌, sym, ◌∙◌, ap, subst}
use mathlib.Core.Bool.{false, ◌||◌}
use mathlib.Core.List.Memᴰ
use mathlib.Core.List.{List, [], ◌∷◌, Memᴰ}
use mathlib.Core.Logic.{⊎_elim}
use native.Mathlib.Nat.{eq-or-lt_of_le, le_trans, mul-le-mul_right}
use native.Mathlib.Omega.{arith}
use native.Mathlib.Numerals.{add-one}
use lib.Dec.{T, eqb, eqb→eq, eqb_refl}
use lib.ListN.{length, get_or-eq_default}
use Rattle.rules.specs.Limits.{atoms_most, weight_most}
use Rattle.rules.specs.Sum.{tally, counted, has}
use Rattle.rules.specs.Rule.{Weighted, atoms_of}
use Rattle.rules.specs.Stable.{Set, gain}
use Rattle.rules.proofs.Tests.{below?, T_or, or_left, or_right}
use Rattle.rules.proofs.Sum.{counted_most}
use Rattle.table.specs.Inner.Words.{pair_width, word_at, pair_atom, pair_weight, pair_at, pairs_from, seg, seg_atoms, Seg}

-- an atom is not 0, which a word past the end would be
pub atom_within : (c : List ℕ) (j : ℕ) → 1 ≤ pair_atom c j → pair_width * j + 1 < length c
unfolding pair_atom word_at
atom_within c j h =
    ⊎_elim (λ (l : pair_width * j + 1 < length c). l)
    (λ (l : length c ≤ pair_width * j + 1). let z = get_or-eq_default c 0 l in absurd (omega (arith, z, h)))
    (below? (pair_width * j + 1) (length c))

pub seg_done : (c : List ℕ) (j to : ℕ) → to ≤ j → seg c j to ≡ []
unfolding seg pairs_from
seg_done c j to h = let e : to - j ≡ 0 = omega arith in ap (λ (k : ℕ). pairs_from c k j) e

pub seg_next : (c : List ℕ) (j to : ℕ) → j < to → seg c j to ≡ pair_at c j ∷ seg c (j + 1) to
unfolding seg pairs_from
seg_next c j to h =
    let e : to - j ≡ suc (to - (j + 1)) = omega arith in
    ap (λ (k : ℕ). pairs_from c k j) e ∙ ap (λ (i : ℕ). pair_at c j ∷ pairs_from c (to - (j + 1)) i) (sym (add-one j))

-- a place from one place to before another
pub record Among (from to j : ℕ) : Type 0 where
  pub low : from ≤ j
  pub high : j < to

-- an element of a run is one of its pairs
pub record PairFound (c : List ℕ) (from to : ℕ) (l : Weighted) : Type 0 where
  pub at : ℕ
  pub among : Among from to at
  pub same : l ≡ pair_at c at

-- an atom of a run is that of one of its pairs
pub record AtomFound (c : List ℕ) (from to a : ℕ) : Type 0 where
  pub at : ℕ
  pub among : Among from to at
  pub same : a ≡ pair_atom c at

module _ (c : List ℕ) where
  in_run : (k j : ℕ) (l : Weighted) → Memᴰ l (pairs_from c k j) → PairFound c j (j + k) l
  unfolding pairs_from
  in_run zero j l m = absurd (Memᴰ.not-nil m)
  in_run (suc k) j l m =
      ⊎_elim (λ e. record { at = j; among = omega arith; same = e }) (λ t. later (in_run k (suc j) l t)) (Memᴰ.cases_cons m)
    where
      later : PairFound c (suc j) (suc j + k) l → PairFound c j (j + suc k) l
      later f = record { at = f.at; among = omega arith; same = f.same }

  of_run : (k j i : ℕ) → j ≤ i → i < j + k → Memᴰ (pair_at c i) (pairs_from c k j)
  unfolding pairs_from
  of_run zero j i l h = absurd (omega arith)
  of_run (suc k) j i l h =
      ⊎_elim (λ e. Memᴰ.head (ap (pair_at c) (sym e))) (λ t. Memᴰ.tail (of_run k (suc j) i t (omega arith)))
      (eq-or-lt_of_le l)

  in_atoms_law : (k j a : ℕ) → T (has a (atoms_of (pairs_from c k j))) → AtomFound c j (j + k) a
  unfolding pairs_from has
  in_atoms_law zero j a t = absurd t
  in_atoms_law (suc k) j a t =
      ⊎_elim (λ e. record { at = j; among = omega arith; same = eqb→eq a (pair_atom c j) e }) (λ u. later (in_atoms_law k (suc j) a u))
      (T_or (eqb a (pair_atom c j)) (has a (atoms_of (pairs_from c k (suc j)))) t)
    where
      later : AtomFound c (suc j) (suc j + k) a → AtomFound c j (j + suc k) a
      later f = record { at = f.at; among = omega arith; same = f.same }

  of_atoms : (k j i : ℕ) → j ≤ i → i < j + k → T (has (pair_atom c i) (atoms_of (pairs_from c k j)))
  unfolding pairs_from has
  of_atoms zero j i l h = absurd (omega arith)
  of_atoms (suc k) j i l h =
      ⊎_elim
      (λ e. or_left (eqb (pair_atom c i) (pair_atom c j)) _
      (subst (λ (x : ℕ). T (eqb (pair_atom c i) (pair_atom c x))) (sym e) (eqb_refl (pair_atom c i))))
      (λ t. or_right (eqb (pair_atom c i) (pair_atom c j)) _ (of_atoms k (suc j) i t (omega arith)))
      (eq-or-lt_of_le l)

  module _ (from to : ℕ) where
    pub seg_found : (l : Weighted) → Memᴰ l (seg c from to) → PairFound c from to l
    unfolding seg
    seg_found l m =
        let f : PairFound c from (from + (to - from)) l = in_run (to - from) from l m in
        record { at = f.at; among = omega arith; same = f.same }

    pub seg_mem : (j : ℕ) → Among from to j → Memᴰ (pair_at c j) (seg c from to)
    unfolding seg
    seg_mem j h = of_run (to - from) from j h.low (omega arith)

    pub atoms_listed : (a : ℕ) → T (has a (seg_atoms c from to)) → AtomFound c from to a
    unfolding seg
    atoms_listed a t =
        let f : AtomFound c from (from + (to - from)) a = in_atoms_law (to - from) from a t in
        record { at = f.at; among = omega arith; same = f.same }

    pub atoms_has : (j : ℕ) → Among from to j → T (has (pair_atom c j) (seg_atoms c from to))
    unfolding seg
    atoms_has j h = of_atoms (to - from) from j h.low (omega arith)

-- an atom is in a run where it is that of the first pair or in the rest
pub has_done : (a : ℕ) (c : List ℕ) (j to : ℕ) → to ≤ j → has a (seg_atoms c j to) ≡ false
unfolding has
has_done a c j to h = ap (λ (ls : List Weighted). has a (atoms_of ls)) (seg_done c j to h)

pub has_next :
    (a : ℕ) (c : List ℕ) (j to : ℕ) → j < to → has a (seg_atoms c j to) ≡ (eqb a (pair_atom c j) || has a (seg_atoms c (j + 1) to))
unfolding has
has_next a c j to h = ap (λ (ls : List Weighted). has a (atoms_of ls)) (seg_next c j to h)

-- a run's weight is that of its first pair and of the rest
pub gain_done : (p : Set) (c : List ℕ) (j to : ℕ) → to ≤ j → gain p (seg c j to) ≡ 0
unfolding tally
gain_done p c j to h = ap (gain p) (seg_done c j to h)

pub gain_next :
    (p : Set) (c : List ℕ) (j to : ℕ) → j < to
    → gain p (seg c j to) ≡ counted (p (pair_atom c j)) (pair_weight c j) + gain p (seg c (j + 1) to)
unfolding tally
gain_next p c j to h = ap (gain p) (seg_next c j to h)

module _ (c : List ℕ) (n : ℕ) (p : Set) where
  light_run : (k j : ℕ) → ((i : ℕ) → j ≤ i → i < j + k → pair_weight c i ≤ weight_most) → gain p (pairs_from c k j) ≤ k * weight_most
  unfolding pairs_from tally
  light_run zero j all = omega arith
  light_run (suc k) j all =
      omega (
        arith,
        counted_most (p (pair_atom c j)) (pair_weight c j),
        all j (omega arith) (omega arith),
        light_run k (suc j) (λ i l h. all i (omega arith) (omega arith)),
      )

  -- a run weighs at most as much as its longest can
  pub seg_light : (from to : ℕ) → Seg c n from to → gain p (seg c from to) ≤ atoms_most * weight_most
  unfolding seg atoms_most
  seg_light from to s =
      let most : gain p (seg c from to) ≤ (to - from) * weight_most =
      light_run (to - from) from (λ i l h. (s.pairs i l (omega arith)).light)
      in
      let few : (to - from) ≤ atoms_most = omega arith in
      le_trans most (mul-le-mul_right weight_most few)
