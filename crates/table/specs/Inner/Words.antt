-- "A body is a list of positive atoms and then a list of negated atoms." In a table each list stands as a run of pairs of words,
-- the weight of a literal and its atom; a list of heads stands so too. A table is one list of words, and a word past its end is 0.
use Rattle.std.specs.Prelude.{ℕ, zero, suc, ◌+◌, ◌*◌, ◌-◌, ◌≤◌, ◌<◌, Bool, true, false, List, [], ◌∷◌, get_or, ltb, Option, Some, None}
use Rattle.rules.specs.Limits.{atoms_most, weight_most}
use Rattle.rules.specs.Sum.{pick}
use Rattle.rules.specs.Rule.{Weighted, Within, atoms_of, weighted, weights_of}

-- how many words a row and a pair have
unfoldable pub row_width : ℕ
row_width = 5

unfoldable pub pair_width : ℕ
pair_width = 2

unfoldable pub word_at : List ℕ → ℕ → ℕ
word_at c i = get_or c i 0

-- pair j stands at the words 2 j and 2 j + 1; the atom, which is never 0, comes last, so that where it is there the weight is too
unfoldable pub pair_atom : List ℕ → ℕ → ℕ
pair_atom c j = word_at c (pair_width * j + 1)

unfoldable pub pair_weight : List ℕ → ℕ → ℕ
pair_weight c j = word_at c (pair_width * j)

abbrev pub pair_at : List ℕ → ℕ → Weighted
pair_at c j = weighted (pair_atom c j) (pair_weight c j)

-- the k pairs from pair j on
unfoldable pub pairs_from : List ℕ → ℕ → ℕ → List Weighted
pairs_from c zero j = []
pairs_from c (suc k) j = pair_at c j ∷ pairs_from c k (suc j)

-- the pairs from one place to before another
unfoldable pub seg : List ℕ → ℕ → ℕ → List Weighted
seg c from to = pairs_from c (to - from) from

-- the same as atoms alone
abbrev pub seg_atoms : List ℕ → ℕ → ℕ → List ℕ
seg_atoms c from to = atoms_of (seg c from to)

-- the k-th place from one to before another
unfoldable pub place_of : ℕ → ℕ → ℕ → Option ℕ
place_of from to k = pick (ltb k (to - from)) (Some (from + k)) None

-- the weights, or the atoms, of such a run
unfoldable pub seg_column : Bool → List ℕ → ℕ → ℕ → List ℕ
seg_column true c from to = weights_of (seg c from to)
seg_column false c from to = seg_atoms c from to

-- the pair is a literal of a sheet of n atoms
pub record Pair (c : List ℕ) (n j : ℕ) : Type 0 where
  pub within : Within n (pair_atom c j)
  pub light : pair_weight c j ≤ weight_most

-- a run of such pairs, no longer than a list of a sheet can be
pub record Seg (c : List ℕ) (n from to : ℕ) : Type 0 where
  pub few : to ≤ from + atoms_most
  pub pairs : (j : ℕ) → from ≤ j → j < to → Pair c n j
