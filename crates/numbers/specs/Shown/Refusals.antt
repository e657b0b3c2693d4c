-- "Refusal 2 for a number not in its shortest form. A fourth byte with its top bit set is refusal 15, same place, whatever follows." "1: sheet
-- ends inside or before a number that is due." What these say of the bytes, without a reader.
use Rattle.std.specs.Prelude.{ℕ, ◌+◌, ◌≤◌, ◌<◌, ◌≡◌, List, length, get_or}
use Rattle.numbers.specs.Answer.{refusal}
use Rattle.numbers.specs.declared.reason.Reason.TheVariants.{EndsEarly, NotShortest, FourthByte}
use Rattle.numbers.specs.declared.Refusal.{Refusal}

-- so many bytes from a place on are there, each with its top bit set
abbrev pub RunsOn : List ℕ → ℕ → ℕ → Type 0
RunsOn s at count = (i : ℕ) → i < count → (at + i < length s) × (128 ≤ get_or s (at + i) 0)

-- why the number at a place is refused
pub data NumberRefused (s : List ℕ) (at : ℕ) : Refusal → Type 0 where
  ends : (count : ℕ) → count < 4 → RunsOn s at count → length s ≤ at + count → NumberRefused s at (refusal EndsEarly (length s))
  padded :
      (count : ℕ) → 0 < count → count < 4 → RunsOn s at count → at + count < length s → get_or s (at + count) 0 ≡ 0
      → NumberRefused s at (refusal NotShortest at)
  large : RunsOn s at 4 → NumberRefused s at (refusal FourthByte at)
