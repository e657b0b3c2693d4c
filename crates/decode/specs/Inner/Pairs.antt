-- "A body is a list of positive atoms and then a list of negated atoms." The words of a table after such a list was written from a
-- pair on: for each literal its atom and its weight, one pair after another.
use Rattle.std.specs.Prelude.{ℕ, ◌+◌, ◌*◌, ◌-◌, ◌≤◌, ◌≡◌, List, [], ◌∷◌, length, set}
use Rattle.rules.specs.Limits.{number_most}
use Rattle.rules.specs.Rule.{Weighted, ones}
use Rattle.numbers.specs.Lists.{numbers_from}
use Rattle.table.specs.Inner.Words.{pair_width}
use Rattle.repeats.specs.Inner.Marks.{atoms_mark, weights_mark}
use Rattle.decode.specs.Inner.Words.{with_words}
use Rattle.decode.specs.Inner.Taken.{numbers_past}
use Rattle.decode.specs.declared.pairs.Reached.{Reached}

unfoldable pub with_pair : List ℕ → ℕ → ℕ → ℕ → List ℕ
with_pair c j atom weight = with_words c (pair_width * j) (weight ∷ atom ∷ [])

unfoldable pub with_pairs : List ℕ → ℕ → List Weighted → List ℕ
with_pairs c j [] = c
with_pairs c j (l ∷ ls) = with_pairs (with_pair c j l.atom l.weight) (j + 1) ls

-- weights over those of the pairs from pair j on
unfoldable pub with_weights : List ℕ → ℕ → List ℕ → List ℕ
with_weights c j [] = c
with_weights c j (w ∷ ws) = with_weights (set c (pair_width * j) w) (j + 1) ws

-- there is room for a pair, and its numbers are a sheet's
pub record PairFits (c : List ℕ) (j atom weight : ℕ) : Type 0 where
  pub room : pair_width * (j + 1) ≤ length c
  pub atom_fits : atom ≤ number_most
  pub weight_fits : weight ≤ number_most

-- there is room for a list
pub record PairsFit (c : List ℕ) (j : ℕ) (ls : List Weighted) : Type 0 where
  pub room : pair_width * (j + length ls) ≤ length c

-- the list was written from pair j on, and next is the pair after it
pub record PairsCopied (c : List ℕ) (j : ℕ) (ls : List Weighted) (c' : List ℕ) (next : ℕ) : Type 0 where
  pub code : c' ≡ with_pairs c j ls
  pub end : next ≡ j + length ls

-- these atoms were written from pair j on, each with weight 1, and end at a place of the sheet; and the mark before, with them
pub record ListCopied (c : List ℕ) (j : ℕ) (xs : List ℕ) (past before : ℕ) (c' : List ℕ) (end : Reached) : Type 0 where
  pub pairs : PairsCopied c j (ones xs) c' end.pair
  pub next : end.next ≡ past
  pub mark : end.mark ≡ atoms_mark before xs

-- the weights that stand at a place of the sheet were written over those of the pairs from one to before another; and the mark before,
-- with them
pub record WeightsCopied (s : List ℕ) (first : ℕ) (c : List ℕ) (from to before : ℕ) (c' : List ℕ) (end : Reached) : Type 0 where
  pub pair : end.pair ≡ to
  pub code : c' ≡ with_weights c from (numbers_from (to - from) s first)
  pub next : end.next ≡ numbers_past (to - from) s first
  pub mark : end.mark ≡ weights_mark before (numbers_from (to - from) s first)
