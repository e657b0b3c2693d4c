-- "Each returns its number and a place." "A refusal from the number reader is handed up unchanged."
use Rattle.std.specs.Prelude.{ℕ, Result, Ok, Err}
use Rattle.numbers.specs.declared.Refusal.{Refusal}
use Rattle.numbers.specs.declared.Span.{Span}
use Rattle.numbers.specs.declared.reason.Reason.{Reason}
use Rattle.numbers.specs.declared.reason.Reason.TheVariants.{EndsEarly, NotShortest, Edition, OutsideLimits, UnknownKind, NoAtom, NotIncreasing, BytesLeft, TooLong, MapTooShort, BadPin, BadMapByte, NoRule, MarginOnContradiction, FourthByte, BoundTooHigh}

-- the number of each reason
abbrev pub reason_number : Reason → ℕ
reason_number EndsEarly = 1
reason_number NotShortest = 2
reason_number Edition = 3
reason_number OutsideLimits = 4
reason_number UnknownKind = 5
reason_number NoAtom = 6
reason_number NotIncreasing = 7
reason_number BytesLeft = 8
reason_number TooLong = 9
reason_number MapTooShort = 10
reason_number BadPin = 11
reason_number BadMapByte = 12
reason_number NoRule = 13
reason_number MarginOnContradiction = 14
reason_number FourthByte = 15
reason_number BoundTooHigh = 16

abbrev pub refusal : Reason → ℕ → Refusal
refusal reason place = record { reason = reason; place = place }

abbrev pub span : ℕ → ℕ → ℕ → Span
span value first next = record { value = value; first = first; next = next }

-- what comes after what was read; a refusal is handed up
unfoldable pub read_then : {V A : Type 0} → (Refusal → A) → Result V Refusal → (V → A) → A
read_then up (Ok read) next = next read
read_then up (Err why) next = up why
