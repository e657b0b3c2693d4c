-- A map held in bytes: atom a at index a - 1. Writing a side to an undecided atom's byte gives the map that is above the old one
-- and below every map above the old one that has the atom on that side. Two lists that agree on the map and past it are equal.
use Prim.Native.Nat.{ℕ, ◌+◌, ◌-◌, ◌≤◌, ◌<◌}
use mathlib.Core.Path.{◌≡◌, sym, ◌∙◌, ap}
use mathlib.Core.Logic.{⊎_elim}
use mathlib.Core.Bool.{Bool, true, false, not, cond}
use mathlib.Core.List.{List, [], ◌∷◌}
use native.Mathlib.Omega.{arith}
use native.Mathlib.Nat.{min-le_left}
use lib.ListN.{length, get_or, set, drop, length-drop, take, length-take}
use lib.Seq.{get_or-set_same, get_or-set_other, ext_get_or, get_or-drop, length-take-le, get_or-take}
use lib.Dec.{T, eqb}
use Rattle.rules.specs.Sum.{tally}
use Rattle.rules.specs.Rule.{Within}
use Rattle.rules.specs.Map.{Map, IsMap, Over, Written, side, signed, want, ◌⊑◌, undecided}
use Rattle.rules.proofs.Tests.{decided, T_eq, T_ne, below?}
use Rattle.rules.proofs.Inside.{inside_true, inside_false, within?}
use Rattle.rules.proofs.Sum.{tally_most}
use Rattle.rules.proofs.Maps.{want_decided, ⊑_trans}
use Rattle.rules.proofs.Least.{over_one, over_at}

pub side_at : (n : ℕ) (m : List ℕ) (a : ℕ) → Within n a → side n m a ≡ get_or m (a - 1) 0
unfolding side
side_at n m a w = ap (λ (b : Bool). cond b (get_or m (a - 1) 0) 0) (inside_true w)

pub side_beyond : (n : ℕ) (m : List ℕ) (a : ℕ) → (Within n a → ⊥) → side n m a ≡ 0
unfolding side
side_beyond n m a o = ap (λ (b : Bool). cond b (get_or m (a - 1) 0) 0) (inside_false o)

-- a byte and its atom
pub index_within : (n i : ℕ) → i < n → Within n (i + 1)
index_within n i h = record { low = omega arith; high = omega arith }

pub side_index : (n : ℕ) (m : List ℕ) (i : ℕ) → i < n → side n m (i + 1) ≡ get_or m i 0
side_index n m i h = side_at n m (i + 1) (index_within n i h) ∙ ap (λ (k : ℕ). get_or m k 0) (omega arith)

-- bytes of 0, 1 and 2 are a map
pub side_map : (n : ℕ) (m : List ℕ) → ((i : ℕ) → i < n → get_or m i 0 ≤ 2) → IsMap n (side n m)
side_map n m small =
    record {
      sides =
          λ a.
          ⊎_elim
          (λ (w : Within n a). omega (arith, side_at n m a w, small (a - 1) (omega (arith, w.low, w.high))))
          (λ o. omega (arith, side_beyond n m a o))
          (within? n a);
      beyond = λ a o. side_beyond n m a o;
    }

pub map_side : (n : ℕ) (m : List ℕ) → IsMap n (side n m) → (i : ℕ) → i < n → get_or m i 0 ≤ 2
map_side n m mp i h = omega (arith, side_index n m i h, mp.sides (i + 1))

-- bytes that agree below n are the same map
pub side_same : (n : ℕ) (m m' : List ℕ) → ((i : ℕ) → i < n → get_or m i 0 ≡ get_or m' i 0) → (a : ℕ) → side n m a ≡ side n m' a
side_same n m m' e a =
    ⊎_elim
    (λ (w : Within n a). side_at n m a w ∙ e (a - 1) (omega (arith, w.low, w.high)) ∙ sym (side_at n m' a w))
    (λ o. side_beyond n m a o ∙ sym (side_beyond n m' a o))
    (within? n a)

module _ (n : ℕ) (m : List ℕ) (a : ℕ) (w : Within n a) (long : n ≤ length m) where
  pub written_same : (v : ℕ) → side n (set m (a - 1) v) a ≡ v
  written_same v = side_at n (set m (a - 1) v) a w ∙ get_or-set_same m (a - 1) v 0 (omega (arith, w.low, w.high))

  pub written_other : (v b : ℕ) → (b ≡ a → ⊥) → side n (set m (a - 1) v) b ≡ side n m b
  written_other v b o =
      ⊎_elim
      (λ (u : Within n b).
      side_at n (set m (a - 1) v) b u ∙ get_or-set_other m (a - 1) (b - 1) v 0 (λ e. o (omega (arith, e, u.low, w.low)))
      ∙ sym (side_at n m b u))
      (λ u. side_beyond n (set m (a - 1) v) b u ∙ sym (side_beyond n m b u))
      (within? n b)

  -- the map holds what it held, and its new side: it is below just the maps that do
  module _ (v : ℕ) where
    pub written_above : side n m a ≡ 0 → side n m ⊑ side n (set m (a - 1) v)
    written_above z =
        record { keeps = λ t b e. written_other v b (λ q. want_decided t (sym e ∙ ap (side n m) q ∙ z)) ∙ e }

    pub written_below : (X : Map) → side n m ⊑ X → X a ≡ v → side n (set m (a - 1) v) ⊑ X
    written_below X f e =
        record { keeps = λ t b h. ⊎_elim (here t b h) (other t b h) (decided (eqb b a)) }
      where
        here : (t : Bool) (b : ℕ) → side n (set m (a - 1) v) b ≡ want t → T (eqb b a) → X b ≡ want t
        here t b h q =
            let k : b ≡ a = T_eq q in
            ap X k ∙ e ∙ sym (written_same v) ∙ sym (ap (side n (set m (a - 1) v)) k) ∙ h

        other : (t : Bool) (b : ℕ) → side n (set m (a - 1) v) b ≡ want t → T (not (eqb b a)) → X b ≡ want t
        other t b h q = f.keeps t b (sym (written_other v b (T_ne q)) ∙ h)

  -- a literal over the map, by its bytes
  module _ (s : Bool) (z : side n m a ≡ 0) (X : Map) where
    pub over_written : side n (set m (a - 1) (want s)) ⊑ X → Over (side n m) (signed s a ∷ []) X
    over_written f =
        over_one s a (⊑_trans (written_above (want s) z) f) (f.keeps s a (written_same (want s)))

    pub written_over : Over (side n m) (signed s a ∷ []) X → side n (set m (a - 1) (want s)) ⊑ X
    written_over q = written_below (want s) X q.above (over_at s a q)

  module _ (s : Bool) where
    pub written_map : IsMap n (side n m) → IsMap n (side n (set m (a - 1) (want s)))
    written_map mp =
        record {
          sides = λ b. ⊎_elim (here b) (other b) (decided (eqb b a));
          beyond = λ b o. side_beyond n (set m (a - 1) (want s)) b o;
        }
      where
        small : (t : Bool) → want t ≤ 2
        small true = omega arith
        small false = omega arith

        here : (b : ℕ) → T (eqb b a) → side n (set m (a - 1) (want s)) b ≤ 2
        here b q =
            omega
            (arith, ap (side n (set m (a - 1) (want s))) (T_eq {a = b} {b = a} q), written_same (want s), small s)

        other : (b : ℕ) → T (not (eqb b a)) → side n (set m (a - 1) (want s)) b ≤ 2
        other b q = omega (arith, written_other (want s) b (T_ne q), mp.sides b)

-- lists of bytes that agree below n, and those that agree past n
pub side_bytes : (n : ℕ) (m m' : List ℕ) → ((a : ℕ) → side n m a ≡ side n m' a) → (i : ℕ) → i < n → get_or m i 0 ≡ get_or m' i 0
side_bytes n m m' e i h = sym (side_index n m i h) ∙ e (i + 1) ∙ side_index n m' i h

pub drop_bytes : (n : ℕ) (m m' : List ℕ) → drop n m ≡ drop n m' → (i : ℕ) → n ≤ i → get_or m i 0 ≡ get_or m' i 0
drop_bytes n m m' e i h =
    let k : n + (i - n) ≡ i = omega arith in
    sym (ap (λ (j : ℕ). get_or m j 0) k) ∙ sym (get_or-drop n m (i - n) 0) ∙ ap (λ (l : List ℕ). get_or l (i - n) 0) e
    ∙ get_or-drop n m' (i - n) 0
    ∙ ap (λ (j : ℕ). get_or m' j 0) k

-- lists that agree past n are the same past n
pub drop_same :
    (n : ℕ) (m m' : List ℕ) → length m ≡ length m' → ((i : ℕ) → n ≤ i → get_or m i 0 ≡ get_or m' i 0) → drop n m ≡ drop n m'
drop_same n m m' l e =
    ext_get_or
    0
    (drop n m)
    (drop n m')
    (length-drop n m ∙ ap (λ (k : ℕ). k - n) l ∙ sym (length-drop n m'))
    (λ i _. get_or-drop n m i 0 ∙ e (n + i) (omega arith) ∙ sym (get_or-drop n m' i 0))

-- what a call writes is fixed by its first n bytes
pub written_equal :
    (n : ℕ) (m m' m'' : List ℕ) → Written n m m' → Written n m m'' → ((i : ℕ) → i < n → get_or m' i 0 ≡ get_or m'' i 0) → m' ≡ m''
written_equal n m m' m'' w w' e =
    ext_get_or
    0
    m'
    m''
    (w.long ∙ sym w'.long)
    (λ i _. ⊎_elim (λ (h : i < n). e i h) (λ (h : n ≤ i). drop_bytes n m' m'' (w.past ∙ sym w'.past) i h) (below? i n))

-- so do equal bytes below n, with as many undecided atoms
pub undecided_same :
    (n : ℕ) (m m' : List ℕ) → n ≤ length m → n ≤ length m' → ((i : ℕ) → i < n → get_or m i 0 ≡ get_or m' i 0) → undecided n m ≡ undecided n m'
unfolding undecided
undecided_same n m m' h h' e = ap (λ (l : List ℕ). tally (λ b. eqb b 0) (λ _. 1) l) same
  where
    same : take n m ≡ take n m'
    same =
        ext_get_or
        0
        (take n m)
        (take n m')
        (length-take-le n m h ∙ sym (length-take-le n m' h'))
        (λ i l.
        let k : i < n = omega (arith, length-take-le n m h, l) in
        get_or-take n m i 0 k ∙ e i k ∙ sym (get_or-take n m' i 0 k))

-- what is written past n, after one call and then another
pub written_trans : {n : ℕ} {m m' m'' : List ℕ} → Written n m m' → Written n m' m'' → Written n m m''
written_trans w w' = record { long = w'.long ∙ w.long; past = w'.past ∙ w.past }

-- no more atoms are undecided than there are
pub undecided_few : (n : ℕ) (m : List ℕ) → undecided n m ≤ n
unfolding undecided
undecided_few n m =
    omega (
      arith,
      tally_most 1 (λ (b : ℕ). eqb b 0) (λ _. 1) (take n m) (λ b i. omega arith),
      length-take n m,
      min-le_left n (length m),
    )
