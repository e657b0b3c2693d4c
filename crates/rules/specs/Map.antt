-- "A map has one byte for each atom: 0 undecided, 1 in, 2 out."
-- "For a rule and a map, sure is the weight of positive atoms in plus negated atoms out; reach is the weight of positive atoms
-- not out plus negated atoms not in." "Margin: reach less need for one rule on one map."
use Rattle.std.specs.Prelude.{ℕ, ◌-◌, ◌≤◌, ◌<◌, ◌≡◌, Bool, true, false, not, ◌&&◌, cond, length, get_or, take, drop, replicate, eqb, leb, ℤ, pos, ◌-ℤ◌}
use mathlib.Core.List.{List, Memᴰ}
use Rattle.rules.specs.Limits.{atoms_most}
use Rattle.rules.specs.Sum.{tally}
use Rattle.rules.specs.Rule.{Rule, Within}
use Rattle.rules.specs.Stable.{Set, value}

infix 50 ◌⊑◌
-- the side of each atom
abbrev pub Map : Type 0
Map = ℕ → ℕ

abbrev pub inside : ℕ → ℕ → Bool
inside n a = leb 1 a && leb a n

-- the map that the first n bytes of m are: atom a at index a - 1, and 0 for what is no atom
unfoldable pub side : ℕ → List ℕ → Map
side n m a = cond (inside n a) (get_or m (a - 1) 0) 0

-- all 0, with a byte for every atom that a sheet can have
abbrev pub blank : List ℕ
blank = replicate atoms_most 0

-- "the number of undecided atoms": the zero bytes among the first n
unfoldable pub undecided : ℕ → List ℕ → ℕ
undecided n m = tally (λ b. eqb b 0) (λ _. 1) (take n m)

-- "a map of 1s and 2s"
abbrev pub Whole : ℕ → List ℕ → Type 0
Whole n m = (i : ℕ) → i < n → Within 2 (get_or m i 0)

-- "Bytes past n are never read or written."
pub record Written (n : ℕ) (m m' : List ℕ) : Type 0 where
  pub long : length m' ≡ length m
  pub past : drop n m' ≡ drop n m

-- the side on which a literal of this sign is true
abbrev pub want : Bool → ℕ
want true = 1
want false = 2

abbrev pub is : ℕ → Map → Set
is s M a = eqb (M a) s

abbrev pub isnt : ℕ → Map → Set
isnt s M a = not (eqb (M a) s)

pub record IsMap (n : ℕ) (M : Map) : Type 0 where
  pub sides : (a : ℕ) → M a ≤ 2
  pub beyond : (a : ℕ) → (Within n a → ⊥) → M a ≡ 0

abbrev pub sure : Rule → Map → ℕ
sure r M = value r (is 1 M) (is 2 M)

abbrev pub reach : Rule → Map → ℕ
reach r M = value r (isnt 2 M) (isnt 1 M)

-- a signed number: "A margin below zero is an answer, not an error"
unfoldable pub margin : Rule → Map → ℤ
margin r M = pos (reach r M) -ℤ pos r.need

-- every decided atom of M has the same side in M'
pub record ◌⊑◌ (M M' : Map) : Type 0 where
  pub keeps : (s : Bool) (a : ℕ) → M a ≡ want s → M' a ≡ want s

-- the total map of a set: its atoms in, the others out
unfoldable pub total : ℕ → Set → Map
total n S a = cond (inside n a) (cond (S a) 1 2) 0

-- an atom with a sign: what a pin or a compute list asks for
pub record Literal : Type 0 where
  pub atom : ℕ
  pub sign : Bool

abbrev pub signed : Bool → ℕ → Literal
signed s a = record { atom = a; sign = s }

abbrev pub Holding : List Literal → Map → Type 0
Holding ps M = (p : Literal) → Memᴰ p ps → M p.atom ≡ want p.sign

-- "holding the old map and the pin": above a map, and holding some literals
pub record Over (M : Map) (ps : List Literal) (X : Map) : Type 0 where
  pub above : M ⊑ X
  pub holds : Holding ps X
