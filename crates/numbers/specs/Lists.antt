-- "A list is a count (0 to n) and then atoms, strictly increasing. Atoms are numbered 1 to n."
-- Refusal 6: "atom 0 or above n on the sheet", at its first byte. 7: "list not strictly increasing", at the later atom; 6 before 7.
use Rattle.std.specs.Prelude.{ℕ, zero, suc, List, [], ◌∷◌, leb, Result, Ok, Err, ok_or}
use Rattle.rules.specs.Number.{checked_atom}
use Rattle.rules.specs.Sum.{pick}
use Rattle.numbers.specs.Answer.{refusal, span, read_then}
use Rattle.numbers.specs.Number.{number_at, within_at, taken_at}
use Rattle.numbers.specs.declared.reason.Reason.TheVariants.{NoAtom, NotIncreasing}
use Rattle.numbers.specs.declared.Refusal.{Refusal}
use Rattle.numbers.specs.declared.Span.{Span}

-- the atom at a place, among n and above the atom before it
unfoldable pub atom_at : List ℕ → ℕ → ℕ → ℕ → Result Span Refusal
atom_at s n above at =
    read_then Err (number_at s at)
    (λ number. read_then Err (ok_or (checked_atom n number.value) (refusal NoAtom at))
    (λ atom. pick (leb atom.number above) (Err (refusal NotIncreasing at)) (Ok number)))

-- the span, carried on to a later place
abbrev pub up_to : Span → ℕ → Span
up_to done next = span done.value done.first next

-- so many more, one after another, each read with the value of the one before it at hand
unfoldable pub in_turn : (ℕ → ℕ → Result Span Refusal) → ℕ → ℕ → Span → Result Span Refusal
in_turn step zero before done = Ok done
in_turn step (suc left) before done =
    read_then Err (step before done.next) (λ one. in_turn step left one.value (up_to done one.next))

unfoldable pub list_at : List ℕ → ℕ → ℕ → ℕ → Result Span Refusal
list_at s least n at =
    read_then Err (within_at s least n at)
    (λ count. in_turn (atom_at s n) count.value 0 (span count.value count.next count.next))

-- so many numbers from a place on
unfoldable pub numbers_from : ℕ → List ℕ → ℕ → List ℕ
numbers_from zero s at = []
numbers_from (suc left) s at = (taken_at s at).value ∷ numbers_from left s (taken_at s at).next

-- the numbers of a list that was read
abbrev pub numbers_of : List ℕ → Span → List ℕ
numbers_of s list = numbers_from list.value s list.first
