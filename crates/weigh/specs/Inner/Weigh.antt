-- "For a rule and a map, sure is the weight of positive atoms in plus negated atoms out; reach is the weight of positive atoms
-- not out plus negated atoms not in." One test serves both: an atom is on a side, or off it.
use Rattle.std.specs.Prelude.{ℕ, Bool, not, List, eqb}
use Rattle.rules.specs.Rule.{Within}
use Rattle.rules.specs.Inner.Bytes.{Room}
use Rattle.rules.specs.Stable.{Set}
use Rattle.rules.specs.Map.{Map}
use Rattle.table.specs.Inner.Words.{Seg}
use Rattle.weigh.specs.declared.Seen.{Seen}
use Rattle.weigh.specs.declared.Seen.TheVariants.{On, Off}

-- is a side the given one, or, with Off, another?
abbrev pub meets : Seen → ℕ → Bool
meets (On s) x = eqb x s
meets (Off s) x = not (eqb x s)

-- the atoms that a map has on such a side
abbrev pub sees : Seen → Map → Set
sees e M a = meets e (M a)

pub record Side (n a : ℕ) (m : List ℕ) : Type 0 where
  pub within : Within n a
  pub room : Room n m

pub record Weighs (c : List ℕ) (n from to : ℕ) (m : List ℕ) : Type 0 where
  pub seg : Seg c n from to
  pub room : Room n m
