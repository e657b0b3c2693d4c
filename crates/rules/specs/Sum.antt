-- The one weighted sum. Every count and every weight of the sheet's meaning is an instance of it.
use Rattle.std.specs.Prelude.{ℕ, ◌+◌, Bool, true, false, ◌||◌, List, [], ◌∷◌, eqb}

-- the one where the test passes, and the other where it fails
unfoldable pub pick : {A : Type 0} → Bool → A → A → A
pick true yea nay = yea
pick false yea nay = nay

-- a weight where the test passes, and 0 where it fails
abbrev pub counted : Bool → ℕ → ℕ
counted true w = w
counted false w = 0

-- the weights of those elements of a list that pass a test
unfoldable pub tally {ℓ} : {A : Type ℓ} → (A → Bool) → (A → ℕ) → List A → ℕ
tally p w [] = 0
tally p w (x ∷ xs) = counted (p x) (w x) + tally p w xs

-- is a number in a list?
unfoldable pub has : ℕ → List ℕ → Bool
has a [] = false
has a (x ∷ xs) = eqb a x || has a xs
