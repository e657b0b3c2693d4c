-- "Rules are read one after another": what the steps from a place on give, in order.
use Rattle.std.specs.Prelude.{ℕ, zero, suc, List, [], ◌∷◌, Some, None, Ok, Err}
use Rattle.std.specs.Borrow.{Bor}
use Rattle.sheet.specs.declared.SheetRule.{SheetRule}
use Rattle.reader.specs.Place.{Place, NextRule, first_place, step_at}
use Rattle.reader.specs.Reader.{start_of, next_of, moved_on}
use Rattle.reader.specs.declared.Reader.{Reader}

-- the rules that were read, and the step after them
pub record ReadOut : Type 0 where
  pub rules : List SheetRule
  pub last : NextRule

abbrev pub stopped : NextRule → ReadOut
stopped step = record { rules = []; last = step }

abbrev pub and_rule : SheetRule → ReadOut → ReadOut
and_rule rule more = record { rules = rule ∷ more.rules; last = more.last }

-- what comes after a rule that was read; any other step is the last one
unfoldable pub step_then : NextRule → (SheetRule → Place → ReadOut) → ReadOut
step_then (Ok (Some step)) next = next step.rule step.place
step_then (Ok None) next = stopped (Ok None)
step_then (Err why) next = stopped (Err why)

-- so many steps from a place on, as far as there are rules, and one more
unfoldable pub read_on : ℕ → List ℕ → Place → ReadOut
read_on zero s place = stopped (step_at s place)
read_on (suc more) s place = step_then (step_at s place) (λ rule next. and_rule rule (read_on more s next))

abbrev pub left_at : Place → ℕ
left_at (Ok rest) = rest.left
left_at (Err why) = zero

-- the whole sheet, from the first rule on
unfoldable pub read_all : List ℕ → ReadOut
read_all s = read_on (left_at (first_place s)) s (first_place s)

-- so many steps of a reader that moves on, as far as there are rules, and one more
unfoldable pub read_by : ℕ → Reader → ReadOut
read_by zero reader = stopped (next_of reader)
read_by (suc more) reader = step_then (next_of reader) (λ rule next. and_rule rule (read_by more (moved_on reader)))

-- the whole sheet, by a reader that starts on it
unfoldable pub read_through : Bor (List ℕ) → ReadOut
read_through sheet = read_by (left_at (start_of sheet).place) (start_of sheet)
