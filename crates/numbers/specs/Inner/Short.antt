-- "A list is a count (0 to n) and then atoms": a run of numbers of which the first take one byte each, and are passed straight.
use Rattle.std.specs.Prelude.{ℕ, ◌+◌, ◌-◌, ◌≤◌, ◌≡◌, List, length, min, Result}
use Rattle.numbers.specs.Answer.{span}
use Rattle.numbers.specs.Lists.{in_turn}
use Rattle.numbers.specs.declared.Refusal.{Refusal}
use Rattle.numbers.specs.declared.Span.{Span}

-- the place after so many bytes from a place on, as far as there are bytes
unfoldable pub past_bytes : List ℕ → ℕ → ℕ → ℕ
past_bytes s count first = first + min count (length s - first)

-- A run of so many numbers from a place on has been read up to a place, one byte each: the run of those that are left, with the value
-- of the last one at hand, is the whole answer.
pub record Ahead (step : ℕ → ℕ → Result Span Refusal) (count first before at : ℕ) : Type 0 where
  pub begun : first ≤ at
  pub few : at ≤ first + count
  pub rest : in_turn step (count - (at - first)) before (span count first at) ≡ in_turn step count 0 (span count first first)
