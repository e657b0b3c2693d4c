-- For a reader who doubts the definitions of the line: its numbers are decimal, and it is one line.
use Rattle.std.specs.Prelude.{ℕ, ◌+◌, ◌-◌, ◌*◌, ◌≤◌, ◌≡◌, Bool, true, not, ◌&&◌, List, [], ◌∷◌, ◌++◌, get_or, T, eqb, ltb, leb}
use Rattle.text.specs.Line.{feed}

-- the number that digits mean, after the digits of another number
unfoldable pub value_after : ℕ → List ℕ → ℕ
value_after high [] = high
value_after high (b ∷ bs) = value_after (high * 10 + (b - 48)) bs

-- every byte is a digit
unfoldable pub figures : List ℕ → Bool
figures [] = true
figures (b ∷ bs) = (leb 48 b && leb b 57) && figures bs

-- digits that mean this number, the first of which is 0 for no number but 0
pub record Decimal (x : ℕ) (bs : List ℕ) : Type 0 where
  pub digital : T (figures bs)
  pub means : value_after 0 bs ≡ x
  pub leads : 1 ≤ x → 49 ≤ get_or bs 0 0

-- no byte is a line feed
unfoldable pub plain : List ℕ → Bool
plain [] = true
plain (b ∷ bs) = not (eqb b 10) && plain bs

-- a line feed, and no other before it
pub record OneLine (line : List ℕ) : Type 0 where
  pub body : List ℕ
  pub ends : line ≡ body ++ feed
  pub single : T (plain body)

-- each number is above the one before it, and the first is above low
unfoldable pub rising : ℕ → List ℕ → Bool
rising low [] = true
rising low (x ∷ xs) = ltb low x && rising x xs
