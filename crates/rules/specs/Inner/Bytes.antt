-- "A map has one byte for each atom: 0 undecided, 1 in, 2 out." What the functions that work on a map's bytes ask of them.
use Rattle.std.specs.Prelude.{ℕ, ◌≤◌, ◌<◌, List, length, get_or}

-- there is a byte for each of the n atoms
abbrev pub Room : ℕ → List ℕ → Type 0
Room n m = n ≤ length m

-- the first n bytes of m are a map
pub record MapBytes (n : ℕ) (m : List ℕ) : Type 0 where
  pub room : Room n m
  pub sides : (i : ℕ) → i < n → get_or m i 0 ≤ 2
