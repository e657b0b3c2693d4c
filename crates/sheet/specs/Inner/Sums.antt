-- "The sum of its own weights": of a weight rule it is computed as the weights are read.
use Rattle.std.specs.Prelude.{ℕ, ◌+◌, ◌-◌, ◌≡◌, true, List, Result, Ok, Err}
use Rattle.rules.specs.Sum.{tally}
use Rattle.numbers.specs.Answer.{span, read_then}
use Rattle.numbers.specs.Lists.{numbers_from, numbers_of}
use Rattle.numbers.specs.Inner.Short.{Ahead}
use Rattle.numbers.specs.declared.Refusal.{Refusal}
use Rattle.numbers.specs.declared.Span.{Span}
use Rattle.sheet.specs.Body.{weight_at, weights_at}
use Rattle.sheet.specs.declared.Literals.{Literals}

abbrev pub sum_of : List ℕ → ℕ
sum_of ws = tally (λ w. true) (λ w. w) ws

-- so many weights from a place on, with the sum of them and of those before
unfoldable pub sum_at : List ℕ → ℕ → ℕ → ℕ → Result Span Refusal
sum_at s before count at =
    read_then Err (weights_at s count at) (λ ws. Ok (span (before + sum_of (numbers_of s ws)) ws.first ws.next))

-- So many of these weights are added to those before, up to a place: with those that are left it is the whole sum.
abbrev pub AddedUp : List ℕ → ℕ → ℕ → ℕ → ℕ → ℕ → ℕ → Type 0
AddedUp s before count first passed sum at =
    sum + sum_of (numbers_from (count - passed) s at) ≡ before + sum_of (numbers_from count s first)

-- The run of these weights has been read up to a place, one byte each, and they are added up.
pub record AddedAhead (s : List ℕ) (before count first sum at : ℕ) : Type 0 where
  pub ahead : Ahead (weight_at s) count first 0 at
  pub added : AddedUp s before count first (at - first) sum at

-- the literals of a list, each with its weight
abbrev pub weighed : Span → Span → Literals
weighed atoms weights = record { atoms = atoms; weights = span atoms.value weights.first weights.next }
