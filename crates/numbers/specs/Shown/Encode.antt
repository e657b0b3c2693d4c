-- The bytes of a number and of a list, and what a list must be: "each in groups of seven bits, low group first, top bit set on every
-- byte but the last"; "a list is a count (0 to n) and then atoms, strictly increasing. Atoms are numbered 1 to n."
use Rattle.std.specs.Prelude.{ℕ, zero, suc, ◌+◌, ◌/◌, ◌%◌, ◌<◌, length, get_or, ltb}
use mathlib.Core.List.{List, [], ◌∷◌, ◌++◌, flat_map}
use Rattle.rules.specs.Rule.{Within}
use Rattle.rules.specs.Sum.{pick}

unfoldable pub groups_of : ℕ → ℕ → List ℕ
groups_of zero v = []
groups_of (suc left) v = pick (ltb v 128) (v ∷ []) ((128 + v % 128) ∷ groups_of left (v / 128))

unfoldable pub number_bytes : ℕ → List ℕ
number_bytes v = groups_of 4 v

abbrev pub numbers_bytes : List ℕ → List ℕ
numbers_bytes xs = flat_map number_bytes xs

abbrev pub list_bytes : List ℕ → List ℕ
list_bytes xs = number_bytes (length xs) ++ numbers_bytes xs

pub record IsBytes (s : List ℕ) : Type 0 where
  pub byte : (i : ℕ) → get_or s i 0 < 256

-- each number of a list stands in this relation to the one before it
pub data Linked (Q : ℕ → ℕ → Type 0) : ℕ → List ℕ → Type 0 where
  none : {before : ℕ} → Linked Q before []
  more : {before x : ℕ} {xs : List ℕ} → Q before x → Linked Q x xs → Linked Q before (x ∷ xs)

-- an atom among n, above the one before it
pub record Rises (n before x : ℕ) : Type 0 where
  pub within : Within n x
  pub above : before < x

-- atoms among n, strictly increasing
abbrev pub Rising : ℕ → List ℕ → Type 0
Rising n xs = Linked (Rises n) 0 xs
