-- "Rules are read one after another from the lent sheet, by a reader that is a struct holding a reference to the sheet and a place."
-- The place is before the rules that are left; of a refused sheet it is the refusal, which is handed up unchanged.
use Rattle.std.specs.Prelude.{ℕ, ◌-◌, Bool, false, List, eqb, Option, Some, None, Result, Ok, Err}
use Rattle.rules.specs.Sum.{pick}
use Rattle.numbers.specs.Answer.{read_then}
use Rattle.numbers.specs.declared.Refusal.{Refusal}
use Rattle.sheet.specs.Rule.{rule_at}
use Rattle.sheet.specs.Sheet.{sheet_read}
use Rattle.sheet.specs.declared.SheetRule.{SheetRule}
use Rattle.sheet.specs.declared.Outline.{Outline}
use Rattle.reader.specs.declared.Rest.{Rest}
use Rattle.reader.specs.declared.Step.{Step}
use Rattle.reader.specs.declared.Stop.{Stop}
use Rattle.reader.specs.declared.Stop.TheVariants.{Refused}

abbrev pub Place : Type 0
Place = Result Rest Stop

abbrev pub NextRule : Type 0
NextRule = Result (Option Step) Stop

-- a refusal of the sheet, handed up
abbrev pub stop_at : {A : Type 0} → Refusal → Result A Stop
stop_at why = Err (Refused why)

-- all the rules of an accepted sheet
abbrev pub all_rules : Outline → Rest
all_rules sheet = record { atoms = sheet.atoms; left = sheet.rules.value; at = sheet.rules.first }

unfoldable pub first_place : List ℕ → Place
first_place s = read_then stop_at (sheet_read s) (λ sheet. Ok (all_rules sheet))

-- the rules that are left after this one
abbrev pub after : Rest → SheetRule → Rest
after rest rule = record { atoms = rest.atoms; left = rest.left - 1; at = rule.next }

-- this rule was read, and these are left
abbrev pub stepped : SheetRule → Rest → NextRule
stepped rule rest = Ok (Some (record { rule = rule; place = Ok rest }))

unfoldable pub rest_step : List ℕ → Rest → NextRule
rest_step s rest =
    pick (eqb rest.left 0) (Ok None) (read_then stop_at (rule_at s rest.atoms rest.at) (λ rule. stepped rule (after rest rule)))

unfoldable pub step_at : List ℕ → Place → NextRule
step_at s (Ok rest) = rest_step s rest
step_at s (Err stop) = Err stop

-- the place after a step: only a rule that was read moves it on
unfoldable pub place_after : NextRule → Place → Place
place_after (Ok (Some step)) place = step.place
place_after (Ok None) place = place
place_after (Err why) place = place

unfoldable pub at_end : Place → Bool
at_end (Ok rest) = eqb rest.left 0
at_end (Err why) = false
