-- "The program writes one line: `MODEL` and the in-atoms, each after one space; or `NONE`; or `REFUSED` number place."
-- A line is a list of bytes, and ends in a line feed. A number is written in decimal, with no leading zero.
use Rattle.std.specs.Prelude.{ℕ, zero, suc, ◌+◌, ◌/◌, ◌%◌, ◌≡◌, Bool, true, false, cond, List, [], ◌∷◌, ◌++◌, get_or, eqb, ltb}
pub use Rattle.arrayvec.specs.ArrayString.{ArrayString, array_string_len}

-- the byte of a digit below 10
abbrev pub digit : ℕ → ℕ
digit d = 48 + d

-- the last digits of a number, at most so many, where the test says whether it has but one
unfoldable pub digits_in : ℕ → ℕ → Bool → List ℕ
digits_in zero x one = []
digits_in (suc k) x true = digit x ∷ []
digits_in (suc k) x false = digits_in k (x / 10) (ltb (x / 10) 10) ++ (digit (x % 10) ∷ [])

-- a number in decimal: no number has more digits than its own size and one
unfoldable pub digits : ℕ → List ℕ
digits x = digits_in (suc x) x (ltb x 10)

-- a number after one space
unfoldable pub spaced : ℕ → List ℕ
spaced x = 32 ∷ digits x

unfoldable pub spaced_all : List ℕ → List ℕ
spaced_all [] = []
spaced_all (x ∷ xs) = spaced x ++ spaced_all xs

-- is the byte at this index, which is that of the atom after it, a 1? A byte that the map does not have counts as 0.
abbrev pub is_in : List ℕ → ℕ → Bool
is_in m i = eqb (get_or m i 0) 1

-- the atom after this index, where it is in
abbrev pub in_atom : List ℕ → ℕ → List ℕ
in_atom m i = cond (is_in m i) (suc i ∷ []) []

-- the in-atoms among 1 to n, in order: atom a has the byte at index a - 1
unfoldable pub in_atoms : ℕ → List ℕ → List ℕ
in_atoms zero m = []
in_atoms (suc i) m = in_atoms i m ++ in_atom m i

abbrev pub model_word : List ℕ
model_word = 77 ∷ 79 ∷ 68 ∷ 69 ∷ 76 ∷ []

abbrev pub none_word : List ℕ
none_word = 78 ∷ 79 ∷ 78 ∷ 69 ∷ []

abbrev pub refused_word : List ℕ
refused_word = 82 ∷ 69 ∷ 70 ∷ 85 ∷ 83 ∷ 69 ∷ 68 ∷ []

abbrev pub feed : List ℕ
feed = 10 ∷ []

unfoldable pub model_line : ℕ → List ℕ → List ℕ
model_line n m = model_word ++ spaced_all (in_atoms n m) ++ feed

unfoldable pub none_line : List ℕ
none_line = none_word ++ feed

unfoldable pub refused_line : ℕ → ℕ → List ℕ
refused_line number place = refused_word ++ spaced number ++ spaced place ++ feed

-- a line is this text
abbrev pub Spells : ArrayString → List ℕ → Type 0
Spells line text = line.bytes ≡ text
