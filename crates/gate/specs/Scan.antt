-- "For 12, the place is the first byte in order that breaks its rule: if the first byte is 3, the first that is not 3; otherwise the
-- first above 2. Test refuses by 12 the first byte that is not 1 or 2." "All n bytes 3 means contradiction (only where n is at least 1)."
use Rattle.std.specs.Prelude.{ℕ, zero, suc, ◌+◌, Bool, ◌&&◌, List, get_or, ltb, leb, eqb}
use Rattle.rules.specs.Sum.{pick}

-- a byte from low to high
abbrev pub between : ℕ → ℕ → ℕ → Bool
between low high b = leb low b && leb b high

-- the first of so many bytes from an index on that a test does not allow, or the index after them
unfoldable pub fault_from : (ℕ → Bool) → ℕ → ℕ → List ℕ → ℕ
fault_from allowed zero i m = i
fault_from allowed (suc left) i m = pick (allowed (get_or m i 0)) (fault_from allowed left (i + 1) m) i

-- the first of n bytes, or n
unfoldable pub first_fault : (ℕ → Bool) → ℕ → List ℕ → ℕ
first_fault allowed n m = fault_from allowed n 0 m

unfoldable pub map_fault : ℕ → List ℕ → ℕ
map_fault n m = pick (eqb (get_or m 0 0) 3) (first_fault (between 3 3) n m) (first_fault (between 0 2) n m)

unfoldable pub model_fault : ℕ → List ℕ → ℕ
model_fault n m = first_fault (between 1 2) n m

unfoldable pub is_contradiction : ℕ → List ℕ → Bool
is_contradiction n m = ltb 0 n && eqb (first_fault (between 3 3) n m) n
