-- The refusal cases of the paper and those of a bound and its weights, computed; and the one of a sheet that is too long, which holds of any such bytes.
use Prim.Native.Nat.{ℕ, ◌<◌}
use mathlib.Core.Path.{◌≡◌, ap}
use mathlib.Core.Bool.{Bool}
use mathlib.Core.List.{List}
use lib.ListN.{length}
use lib.Dec.{T}
use borrow.Author.Tests.{lt-ltb}
use Rattle.std.specs.Prelude.{Err}
use Rattle.rules.specs.Limits.{atoms_most, rules_most, bytes_most, weight_most}
use Rattle.rules.specs.Number.{checked_atom}
use Rattle.rules.specs.Rule.{checked_kind}
use Rattle.rules.specs.Sum.{tally, pick}
use Rattle.rules.specs.Stable.{value}
use Rattle.numbers.specs.Answer.{refusal, read_then}
use Rattle.numbers.specs.Number.{groups_from, number_at, taken_from, taken_at, within_at}
use Rattle.numbers.specs.Lists.{atom_at, in_turn, list_at, numbers_from}
use Rattle.numbers.specs.Shown.Encode.{groups_of, number_bytes}
use Rattle.numbers.specs.declared.reason.Reason.TheVariants.{TooLong}
use Rattle.sheet.specs.Body.{weight_at, weights_at, weighed_at, body_at, unless_above, unless_dead}
use Rattle.sheet.specs.RuleMeaning.{paired, rule_meant}
use Rattle.sheet.specs.Rule.{head_then, basic_at, bounded_at, choice_at, kind_at, rule_at, rule_step, rules_at}
use Rattle.sheet.specs.Sheet.{edition_at, tail_at, rest_at, whole_at, sheet_read}
use Rattle.sheet.specs.Shown.Cases.{refusal_cases, bound_cases, all_said}

pub all_cases : T (all_said refusal_cases)
unfolding unless_dead unless_above rule_meant paired value tally numbers_from taken_at taken_from all_said refusal_cases sheet_read whole_at edition_at rest_at tail_at rules_at rule_step read_then rule_at choice_at bounded_at basic_at head_then body_at weighed_at weights_at weight_at list_at in_turn atom_at within_at number_at groups_from groups_of number_bytes pick checked_atom checked_kind kind_at atoms_most rules_most bytes_most weight_most
all_cases = tt

pub bound_cases_law : T (all_said bound_cases)
unfolding unless_dead unless_above rule_meant paired value tally numbers_from taken_at taken_from all_said bound_cases sheet_read whole_at edition_at rest_at tail_at rules_at rule_step read_then rule_at choice_at bounded_at basic_at head_then body_at weighed_at weights_at weight_at list_at in_turn atom_at within_at number_at groups_from groups_of number_bytes pick checked_atom checked_kind kind_at atoms_most rules_most bytes_most weight_most
bound_cases_law = tt

pub too_long : (s : List ℕ) → bytes_most < length s → sheet_read s ≡ Err (refusal TooLong bytes_most)
unfolding sheet_read pick
too_long s h = ap (λ (b : Bool). pick b (Err (refusal TooLong bytes_most)) (whole_at s)) (lt-ltb bytes_most (length s) h)
