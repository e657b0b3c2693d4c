-- "reads one sheet from standard input": the bytes that were read are the first of the buffer, and no more than it has.
use Rattle.std.specs.Prelude.{ℕ, ◌≤◌, ◌≡◌, List, length, take}

abbrev pub InBuffer : List ℕ → ℕ → Type 0
InBuffer buffer len = (len ≤ length buffer) × (len ≡ length (take len buffer))
