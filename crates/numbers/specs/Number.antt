-- "A sheet is a run of whole numbers, each in groups of seven bits, low group first, top bit set on every byte but the last.
-- A number takes one to four bytes, so 0 to 268,435,455 (FF FF FF 7F), and must be in its shortest form."
-- Refusal 1: "sheet ends inside or before a number that is due", at the sheet's length. 2: "a number not in its shortest form", at
-- its first byte. 15: "a fourth byte with its top bit set", "same place, whatever follows". 4: a count or a weight "outside its
-- limits", at its first byte.
use Rattle.std.specs.Prelude.{ℕ, zero, suc, ◌+◌, ◌*◌, ◌%◌, ◌&&◌, List, length, get_or, ltb, eqb, Result, Ok, Err}
use Rattle.rules.specs.Sum.{pick}
use Rattle.numbers.specs.Answer.{refusal, span, read_then}
use Rattle.numbers.specs.declared.reason.Reason.TheVariants.{EndsEarly, NotShortest, OutsideLimits, FourthByte}
use Rattle.numbers.specs.declared.Refusal.{Refusal}
use Rattle.numbers.specs.declared.Span.{Span}

-- a low group, and the groups above it
abbrev pub higher : ℕ → Span → Span
higher low high = span (low + 128 * high.value) high.first high.next

-- the groups from a place on, at most so many, of the number whose first byte is at first
unfoldable pub groups_from : ℕ → List ℕ → ℕ → ℕ → Result Span Refusal
groups_from zero s first at = Err (refusal FourthByte first)
groups_from (suc left) s first at =
    pick (ltb at (length s))
    (pick (ltb (get_or s at 0) 128)
    (pick (ltb first at && eqb (get_or s at 0) 0) (Err (refusal NotShortest first))
    (Ok (span (get_or s at 0) first (at + 1))))
    (read_then Err (groups_from left s first (at + 1))
    (λ high. Ok (higher (get_or s at 0 % 128) high))))
    (Err (refusal EndsEarly (length s)))

unfoldable pub number_at : List ℕ → ℕ → Result Span Refusal
number_at s at = groups_from 4 s at at

-- the same without a test: of a place where a number was read, that number
unfoldable pub taken_from : ℕ → List ℕ → ℕ → ℕ → Span
taken_from zero s first at = span 0 first at
taken_from (suc left) s first at =
    pick (ltb at (length s))
    (pick (ltb (get_or s at 0) 128) (span (get_or s at 0) first (at + 1))
    (higher (get_or s at 0 % 128) (taken_from left s first (at + 1))))
    (span 0 first at)

unfoldable pub taken_at : List ℕ → ℕ → Span
taken_at s at = taken_from 4 s at at

unfoldable pub within_at : List ℕ → ℕ → ℕ → ℕ → Result Span Refusal
within_at s least most at =
    read_then Err (number_at s at)
    (λ number. pick (ltb number.value least) (Err (refusal OutsideLimits at))
    (pick (ltb most number.value) (Err (refusal OutsideLimits at)) (Ok number)))
