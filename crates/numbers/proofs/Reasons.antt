-- The reasons are numbered from 1 to the highest refusal, and no two have one number: each is found again by its number.
use Prim.Native.Nat.{ℕ, ◌≤◌}
use mathlib.Core.Path.{◌≡◌, refl, sym, ap, ◌∙◌}
use native.Mathlib.Omega.{arith}
use lib.Dec.{eqb}
use Rattle.rules.specs.Sum.{pick}
use Rattle.rules.specs.Limits.{highest_refusal}
use Rattle.numbers.specs.Answer.{reason_number}
use Rattle.numbers.specs.declared.reason.Reason.{Reason}
use Rattle.numbers.specs.declared.reason.Reason.TheVariants.{EndsEarly, NotShortest, Edition, OutsideLimits, UnknownKind, NoAtom, NotIncreasing, BytesLeft, TooLong, MapTooShort, BadPin, BadMapByte, NoRule, MarginOnContradiction, FourthByte, BoundTooHigh}

pub reason_numbered : (r : Reason) → (1 ≤ reason_number r) × (reason_number r ≤ highest_refusal)
reason_numbered EndsEarly = (omega arith, omega arith)
reason_numbered NotShortest = (omega arith, omega arith)
reason_numbered Edition = (omega arith, omega arith)
reason_numbered OutsideLimits = (omega arith, omega arith)
reason_numbered UnknownKind = (omega arith, omega arith)
reason_numbered NoAtom = (omega arith, omega arith)
reason_numbered NotIncreasing = (omega arith, omega arith)
reason_numbered BytesLeft = (omega arith, omega arith)
reason_numbered TooLong = (omega arith, omega arith)
reason_numbered MapTooShort = (omega arith, omega arith)
reason_numbered BadPin = (omega arith, omega arith)
reason_numbered BadMapByte = (omega arith, omega arith)
reason_numbered NoRule = (omega arith, omega arith)
reason_numbered MarginOnContradiction = (omega arith, omega arith)
reason_numbered FourthByte = (omega arith, omega arith)
reason_numbered BoundTooHigh = (omega arith, omega arith)

-- the reason of a number, where it is one's
pub reason_of : ℕ → Reason
reason_of k =
    pick (eqb k 1) EndsEarly
    (pick (eqb k 2) NotShortest
    (pick (eqb k 3) Edition
    (pick (eqb k 4) OutsideLimits
    (pick (eqb k 5) UnknownKind
    (pick (eqb k 6) NoAtom
    (pick (eqb k 7) NotIncreasing
    (pick (eqb k 8) BytesLeft
    (pick (eqb k 9) TooLong
    (pick (eqb k 10) MapTooShort
    (pick (eqb k 11) BadPin
    (pick (eqb k 12) BadMapByte
    (pick (eqb k 13) NoRule
    (pick (eqb k 14) MarginOnContradiction
    (pick (eqb k 15) FourthByte BoundTooHigh))))))))))))))

pub reason_found : (r : Reason) → reason_of (reason_number r) ≡ r
unfolding reason_of pick
reason_found EndsEarly = refl
reason_found NotShortest = refl
reason_found Edition = refl
reason_found OutsideLimits = refl
reason_found UnknownKind = refl
reason_found NoAtom = refl
reason_found NotIncreasing = refl
reason_found BytesLeft = refl
reason_found TooLong = refl
reason_found MapTooShort = refl
reason_found BadPin = refl
reason_found BadMapByte = refl
reason_found NoRule = refl
reason_found MarginOnContradiction = refl
reason_found FourthByte = refl
reason_found BoundTooHigh = refl

pub reasons_apart : (a b : Reason) → reason_number a ≡ reason_number b → a ≡ b
reasons_apart a b e = sym (reason_found a) ∙ ap reason_of e ∙ reason_found b
