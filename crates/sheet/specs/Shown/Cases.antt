-- "Cases: empty sheet: 1 at 0. `01 02`: 1 at 2. `80 00`: 2 at 0. `02`: 3 at 0. `01 81 04` (513 atoms): 4 at 1; `01 80 04` gets past the
-- count and is 1 at 3. `01 01 01 04`: 5 at 3. `01 01 01 01 02`: 6 at 4. `01 02 01 03 02 02 01`: 7 at 6. `01 00 00 00 00 00`: 8 at 5."
-- The two rows that turn on the limit of atoms are written from it. Then the numbers of refusal 15, "a fourth byte with its top bit set, whatever
-- follows": `01 FF FF FF 80 00`: 15 at 1. `80 80 80 80`: 15 at 0. `80 80 80`: 1 at 3. `80 80 80 00`: 2 at 0. Then refusal 16, "a bound
-- of 500 over weights summing to 50": it is given "once the rule has been read in full", and "a bound equal to the sum is accepted, zero
-- over an empty body too". The row with a weight that is too high is written from the limit of weights.
use Rattle.std.specs.Prelude.{ℕ, suc, ◌+◌, Bool, true, false, ◌&&◌, List, [], ◌∷◌, ◌++◌, length, eqb, Result, Ok, Err}
use Rattle.rules.specs.Limits.{atoms_most, weight_most}
use Rattle.numbers.specs.Answer.{reason_number}
use Rattle.numbers.specs.Shown.Encode.{number_bytes}
use Rattle.numbers.specs.declared.Refusal.{Refusal}
use Rattle.sheet.specs.Sheet.{sheet_read}
use Rattle.sheet.specs.declared.Outline.{Outline}

-- what is said of bytes: refused by a number at a place, or accepted with so many atoms and rules
pub data Said : Type 0 where
  refused_by accepted_with : ℕ → ℕ → Said

pub record SheetCase : Type 0 where
  pub bytes : List ℕ
  pub said : Said

abbrev case : List ℕ → ℕ → ℕ → SheetCase
case bytes number place = record { bytes = bytes; said = refused_by number place }

abbrev passes : List ℕ → ℕ → ℕ → SheetCase
passes bytes atoms rules = record { bytes = bytes; said = accepted_with atoms rules }

unfoldable pub refusal_cases : List SheetCase
refusal_cases =
    case [] 1 0
    ∷ case (0x01 ∷ 0x02 ∷ []) 1 2
    ∷ case (0x80 ∷ 0x00 ∷ []) 2 0
    ∷ case (0x02 ∷ []) 3 0
    ∷ case (0x01 ∷ number_bytes (atoms_most + 1)) 4 1
    ∷ case (0x01 ∷ number_bytes atoms_most) 1 (suc (length (number_bytes atoms_most)))
    ∷ case (0x01 ∷ 0x01 ∷ 0x01 ∷ 0x04 ∷ []) 5 3
    ∷ case (0x01 ∷ 0x01 ∷ 0x01 ∷ 0x01 ∷ 0x02 ∷ []) 6 4
    ∷ case (0x01 ∷ 0x02 ∷ 0x01 ∷ 0x03 ∷ 0x02 ∷ 0x02 ∷ 0x01 ∷ []) 7 6
    ∷ case (0x01 ∷ 0x00 ∷ 0x00 ∷ 0x00 ∷ 0x00 ∷ 0x00 ∷ []) 8 5
    ∷ case (0x01 ∷ 0xff ∷ 0xff ∷ 0xff ∷ 0x80 ∷ 0x00 ∷ []) 15 1
    ∷ case (0x80 ∷ 0x80 ∷ 0x80 ∷ 0x80 ∷ []) 15 0
    ∷ case (0x80 ∷ 0x80 ∷ 0x80 ∷ []) 1 3
    ∷ case (0x80 ∷ 0x80 ∷ 0x80 ∷ 0x00 ∷ []) 2 0
    ∷ []

-- a rule with head 1, the literals 2 and not 3, and this number as its bound: a constraint, and a weight rule with weights 30 and 20
abbrev two_of : List ℕ → List ℕ
two_of bound = 0x02 ∷ 0x01 ∷ bound ++ (0x01 ∷ 0x02 ∷ 0x01 ∷ 0x03 ∷ [])

abbrev fifty_of : List ℕ → List ℕ
fifty_of bound = 0x05 ∷ 0x01 ∷ bound ++ (0x01 ∷ 0x02 ∷ 0x01 ∷ 0x03 ∷ 0x1e ∷ 0x14 ∷ [])

-- so many rules over three atoms, and what comes after them
abbrev three : ℕ → List ℕ → List ℕ → List ℕ
three count rules rest = 0x01 ∷ 0x03 ∷ count ∷ rules ++ rest

abbrev nothing_more : List ℕ
nothing_more = 0x00 ∷ 0x00 ∷ []

unfoldable pub bound_cases : List SheetCase
bound_cases =
    case (three 1 (two_of (0x03 ∷ [])) nothing_more) 16 5
    ∷ passes (three 1 (two_of (0x02 ∷ [])) nothing_more) 3 1
    ∷ case (three 1 (fifty_of (0xf4 ∷ 0x03 ∷ [])) nothing_more) 16 5
    ∷ case (three 1 (fifty_of (0x33 ∷ [])) nothing_more) 16 5
    ∷ passes (three 1 (fifty_of (0x32 ∷ [])) nothing_more) 3 1
    ∷ passes (three 1 (0x02 ∷ 0x01 ∷ 0x00 ∷ 0x00 ∷ 0x00 ∷ []) nothing_more) 3 1
    ∷ passes (three 1 (0x05 ∷ 0x01 ∷ 0x00 ∷ 0x00 ∷ 0x00 ∷ []) nothing_more) 3 1
    ∷ case (three 1 (0x02 ∷ 0x01 ∷ 0x01 ∷ 0x00 ∷ 0x00 ∷ []) nothing_more) 16 5
    ∷ case (three 1 (0x05 ∷ 0x01 ∷ 0x01 ∷ 0x00 ∷ 0x00 ∷ []) nothing_more) 16 5
    ∷ case (three 1 (0x02 ∷ 0x01 ∷ 0x09 ∷ 0x01 ∷ 0x02 ∷ 0x01 ∷ 0x04 ∷ []) nothing_more) 6 9
    ∷ case (three 1 (0x05 ∷ 0x01 ∷ 0x33 ∷ 0x01 ∷ 0x02 ∷ 0x01 ∷ 0x03 ∷ 0x00 ∷ number_bytes (weight_most + 1)) nothing_more) 4 11
    ∷ case (three 1 (0x05 ∷ 0x01 ∷ 0x33 ∷ 0x01 ∷ 0x02 ∷ 0x01 ∷ 0x03 ∷ 0x1e ∷ []) []) 1 11
    ∷ case (three 2 (two_of (0x03 ∷ [])) (0x04 ∷ [])) 16 5
    ∷ case (three 2 (two_of (0x02 ∷ [])) (fifty_of (0x33 ∷ []) ++ nothing_more)) 16 12
    ∷ case (three 1 (two_of (0x03 ∷ [])) (0x00 ∷ 0x00 ∷ 0x00 ∷ [])) 16 5
    ∷ []

abbrev pub says : Result Outline Refusal → Said → Bool
says (Ok sheet) (accepted_with atoms rules) = eqb sheet.atoms atoms && eqb sheet.rules.value rules
says (Ok sheet) (refused_by number place) = false
says (Err why) (accepted_with atoms rules) = false
says (Err why) (refused_by number place) = eqb (reason_number why.reason) number && eqb why.place place

-- is this said of every case?
unfoldable pub all_said : List SheetCase → Bool
all_said [] = true
all_said (c ∷ cs) = says (sheet_read c.bytes) c.said && all_said cs
