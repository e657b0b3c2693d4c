-- "Each returns its number and a place. Number 9 is tested first, then the sheet in reading order, then 10, 11, 13, 12, 14, as far as the
-- call has such an input." What stops a call, or the sheet on which it goes on.
use Rattle.std.specs.Prelude.{ℕ, Bool, not, ◌&&◌, List, [], ◌∷◌, length, ltb, eqb, Option, Some, None, Result, Ok, Err}
use Rattle.rules.specs.Sum.{pick}
use Rattle.rules.specs.Map.{inside}
use Rattle.rules.specs.declared.RuleNo.{RuleNo}
use Rattle.numbers.specs.Answer.{refusal, read_then}
use Rattle.numbers.specs.declared.Refusal.{Refusal}
use Rattle.numbers.specs.declared.reason.Reason.TheVariants.{MapTooShort, BadPin, BadMapByte, NoRule, MarginOnContradiction}
use Rattle.sheet.specs.Sheet.{sheet_read}
use Rattle.sheet.specs.declared.Outline.{Outline}
use Rattle.gate.specs.Scan.{map_fault, model_fault, is_contradiction}
use Rattle.gate.specs.declared.Pin.{Pin}

-- a test of a call: it is stopped by a refusal, or goes on
abbrev pub Test : Type 0
Test = Result Unit Refusal

unfoldable pub stop_if : Bool → Refusal → Test
stop_if b why = pick b (Err why) (Ok tt)

-- 10: "map shorter than n", at 0
abbrev pub room : ℕ → List ℕ → Test
room n m = stop_if (ltb (length m) n) (refusal MapTooShort 0)

-- an atom of 1 to n, and side 1 or 2
abbrev pub is_pin : ℕ → ℕ → ℕ → Bool
is_pin n a v = inside n a && inside 2 v

-- 11: "pinned atom 0 or above n, or side not 1 or 2", at 0
abbrev pub pin : ℕ → ℕ → ℕ → Test
pin n a v = stop_if (not (is_pin n a v)) (refusal BadPin 0)

-- 13: "rule number 0 or above the rule count", at 0
abbrev pub rule : ℕ → ℕ → Test
rule count k = stop_if (not (inside count k)) (refusal NoRule 0)

-- 12: "map byte not allowed", at its index
abbrev pub no_fault : ℕ → ℕ → Test
no_fault n place = stop_if (ltb place n) (refusal BadMapByte place)

abbrev pub map_bytes : ℕ → List ℕ → Test
map_bytes n m = no_fault n (map_fault n m)

abbrev pub model_bytes : ℕ → List ℕ → Test
model_bytes n m = no_fault n (model_fault n m)

-- 14: "margin asked on a contradiction", at 0
abbrev pub no_contradiction : ℕ → List ℕ → Test
no_contradiction n m = stop_if (is_contradiction n m) (refusal MarginOnContradiction 0)

-- the sheet, unless one of so many tests stops the call: the first that does
unfoldable pub tested : List Test → Outline → Result Outline Refusal
tested [] o = Ok o
tested (t ∷ ts) o = read_then Err t (λ _. tested ts o)

-- the sheet's own refusals, and then those of the call's tests
unfoldable pub gate : List ℕ → (Outline → List Test) → Result Outline Refusal
gate s tests = read_then Err (sheet_read s) (λ o. tested (tests o) o)

-- the gates of the calls: open and solve have one, since they write the map and do not read it
abbrev pub room_gate : List ℕ → List ℕ → Result Outline Refusal
room_gate s m = gate s (λ o. room o.atoms m ∷ [])

abbrev pub open_gate : List ℕ → List ℕ → Result Outline Refusal
open_gate s m = room_gate s m

abbrev pub solve_gate : List ℕ → List ℕ → Result Outline Refusal
solve_gate s m = room_gate s m

abbrev pub test_gate : List ℕ → List ℕ → Result Outline Refusal
test_gate s m = gate s (λ o. room o.atoms m ∷ model_bytes o.atoms m ∷ [])

abbrev pub pin_gate : List ℕ → List ℕ → ℕ → ℕ → Result Outline Refusal
pin_gate s m a v = gate s (λ o. room o.atoms m ∷ pin o.atoms a v ∷ map_bytes o.atoms m ∷ [])

abbrev pub margin_gate : List ℕ → List ℕ → ℕ → Result Outline Refusal
margin_gate s m k =
    gate s (λ o. room o.atoms m ∷ rule o.rules.value k ∷ map_bytes o.atoms m ∷ no_contradiction o.atoms m ∷ [])

abbrev pub part_gate : List ℕ → ℕ → Result Outline Refusal
part_gate s k = gate s (λ o. rule o.rules.value k ∷ [])

-- the pin and the rule that two numbers and a number stand for; 1 is in and 2 is out
abbrev pub pin_of : ℕ → ℕ → Pin
pin_of a v = record { atom = record { number = a }; inside = eqb v 1 }

abbrev pub rule_of : ℕ → RuleNo
rule_of k = record { number = k }

-- "A pin on a contradiction answers contradiction again": there no pin is handed on
abbrev pub then_stay : ℕ → List ℕ → Pin → Option Pin
then_stay n m p = pick (is_contradiction n m) None (Some p)

-- a value, where a test lets the call go on; and beside the sheet, of which it may be
unfoldable pub then_give : {A B : Type 0} → B → Result A Refusal → Result B Refusal
then_give x t = read_then Err t (λ _. Ok x)

unfoldable pub beside : {B : Type 0} → (Outline → B) → Result Outline Refusal → Result (Outline × B) Refusal
beside x g = read_then Err g (λ o. Ok (o, x o))

abbrev pub with_pin : ℕ → ℕ → Result Outline Refusal → Result (Outline × Pin) Refusal
with_pin a v g = beside (λ o. pin_of a v) g

abbrev pub with_stay : List ℕ → ℕ → ℕ → Result Outline Refusal → Result (Outline × Option Pin) Refusal
with_stay m a v g = beside (λ o. then_stay o.atoms m (pin_of a v)) g

abbrev pub with_rule : ℕ → Result Outline Refusal → Result (Outline × RuleNo) Refusal
with_rule k g = beside (λ o. rule_of k) g
