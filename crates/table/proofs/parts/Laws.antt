-- The parts of a row: a run of pairs has as many as its places are apart, and the k-th of them stands k places on.
use Prim.Native.Nat.{ℕ, zero, suc, ◌+◌, ◌-◌, ◌<◌}
use mathlib.Core.Path.{◌≡◌, refl, sym, ◌∙◌, ap, ap₂}
use mathlib.Core.Bool.{Bool, true, false, cond}
use mathlib.Core.List.{List, map}
use native.Mathlib.Omega.{arith}
use Rattle.std.specs.Prelude.{Option, Some, None, MatchOption, IsSomeAnd, option_map}
use lib.ListN.{length, get_or, length-map}
use lib.Dec.{ltb}
use borrow.Author.Tests.{ltb-true}
use Rattle.rules.specs.Sum.{pick}
use Rattle.rules.specs.Rule.{Weighted, item_of}
use Rattle.table.specs.Inner.Words.{pair_atom, pair_weight, pairs_from, seg, seg_column, pair_at, place_of}

pairs_length : (c : List ℕ) (k j : ℕ) → length (pairs_from c k j) ≡ k
unfolding pairs_from
pairs_length c zero j = refl
pairs_length c (suc k) j = ap suc (pairs_length c k (suc j))

pub seg_length : (c : List ℕ) (from to : ℕ) → length (seg c from to) ≡ to - from
unfolding seg
seg_length c from to = pairs_length c (to - from) from

-- one column of the pairs
abbrev cell_at : Bool → List ℕ → ℕ → ℕ
cell_at true c j = pair_weight c j
cell_at false c j = pair_atom c j

column_length : (w : Bool) (c : List ℕ) (from to : ℕ) → length (seg_column w c from to) ≡ to - from
unfolding seg_column
column_length true c from to = length-map (seg c from to) _ ∙ seg_length c from to
column_length false c from to = length-map (seg c from to) _ ∙ seg_length c from to

pairs_get :
    (f : Weighted → ℕ) (c : List ℕ) (k j i : ℕ) → i < k → get_or (map f (pairs_from c k j)) i 0 ≡ f (pair_at c (j + i))
unfolding pairs_from
pairs_get f c zero j i h = absurd (omega (arith, h))
pairs_get f c (suc k) j zero h = ap (λ (x : ℕ). f (pair_at c x)) (omega arith)
pairs_get f c (suc k) j (suc i) h =
    pairs_get f c k (suc j) i (omega (arith, h)) ∙ ap (λ (x : ℕ). f (pair_at c x)) (omega arith)

column_get : (w : Bool) (c : List ℕ) (from to i : ℕ) → i < to - from → get_or (seg_column w c from to) i 0 ≡ cell_at w c (from + i)
unfolding seg seg_column
column_get true c from to i h = pairs_get (λ l. l.weight) c (to - from) from i h
column_get false c from to i h = pairs_get (λ l. l.atom) c (to - from) from i h

-- the k-th of a column is that of the pair at the k-th place, where there is one
column_item : (w : Bool) (c : List ℕ) (from to k : ℕ) → option_map (cell_at w c) (place_of from to k) ≡ item_of (seg_column w c from to) k
unfolding item_of place_of pick
column_item w c from to k = either (ltb k (to - from)) refl
  where
    either : (b : Bool) → ltb k (to - from) ≡ b → option_map (cell_at w c) (cond b (Some (from + k)) None) ≡ cond (ltb k (length (seg_column w c from to))) (Some (get_or (seg_column w c from to) k 0)) None
    either true e = simp (column_length w c from to, e, column_get w c from to k (ltb-true _ _ e))
    either false e = simp (column_length w c from to, e)

-- the same of what a closure made of the place, where the run's places were read
pub item_at :
    (w : Bool) (c : List ℕ) (from to a b k : ℕ) (o r : Option ℕ) {Q : ℕ → ℕ → Type 0} → a ≡ from → b ≡ to → o ≡ place_of a b k
    → ((x y : ℕ) → Q x y → y ≡ cell_at w c x) → MatchOption o (r ≡ None) (λ x. IsSomeAnd r (Q x))
    → r ≡ item_of (seg_column w c from to) k
item_at w c from to a b k o r {Q = Q} d e h f m = by o r m ∙ ap (option_map (cell_at w c)) (h ∙ ap₂ (λ (y z : ℕ). place_of y z k) d e) ∙ column_item w c from to k
  where
    by : (o r : Option ℕ) → MatchOption o (r ≡ None) (λ x. IsSomeAnd r (Q x)) → r ≡ option_map (cell_at w c) o
    by None r m = m
    by (Some x) (Some y) m = ap Some (f x y m)
    by (Some x) None m = absurd m

-- how many pairs there are, where the places were read
pub so_many_pairs : (c : List ℕ) (from to a b k : ℕ) → a ≡ from → b ≡ to → k ≡ b - a → Some k ≡ Some (length (seg c from to))
so_many_pairs c from to a b k d e h = ap Some (h ∙ ap₂ (λ (x y : ℕ). y - x) d e ∙ sym (seg_length c from to))

pub so_many :
    (f : Weighted → ℕ) (c : List ℕ) (from to a b k : ℕ) → a ≡ from → b ≡ to → k ≡ b - a → Some k ≡ Some (length (map f (seg c from to)))
so_many f c from to a b k d e h = so_many_pairs c from to a b k d e h ∙ ap Some (sym (length-map (seg c from to) f))
