-- "A body is a list of positive atoms and then a list of negated atoms." A weight rule has, after its body, "one weight (0 to
-- 1,000,000) for each positive and then for each negative literal, in body order".
-- Refusal 16: "a constraint or weight rule whose need is above the sum of its own weights", "at the bound's first byte, once the rule has
-- been read in full. Other refusals within that rule come earlier."
use Rattle.std.specs.Prelude.{ℕ, ◌+◌, List, ltb, Result, Ok, Err}
use Rattle.rules.specs.Limits.{weight_most}
use Rattle.rules.specs.Sum.{pick}
use Rattle.rules.specs.Stable.{weight_sum}
use Rattle.numbers.specs.Answer.{refusal, span, read_then}
use Rattle.numbers.specs.Number.{within_at}
use Rattle.numbers.specs.Lists.{in_turn, list_at}
use Rattle.numbers.specs.declared.reason.Reason.TheVariants.{BoundTooHigh}
use Rattle.numbers.specs.declared.Refusal.{Refusal}
use Rattle.numbers.specs.declared.Span.{Span}
use Rattle.sheet.specs.RuleMeaning.{rule_meant}
use Rattle.sheet.specs.declared.SheetKind.{SheetKind}
use Rattle.sheet.specs.declared.SheetKind.TheVariants.{Basic, Constraint, Choice, Weight}
use Rattle.sheet.specs.declared.SheetRule.{SheetRule}

-- a weight, whatever the weight before it
unfoldable pub weight_at : List ℕ → ℕ → ℕ → Result Span Refusal
weight_at s before at = within_at s 0 weight_most at

-- so many weights are written for so many literals
abbrev pub weights_due : SheetKind → ℕ → ℕ
weights_due (Basic head) count = 0
weights_due (Constraint head bound) count = 0
weights_due (Choice heads) count = 0
weights_due (Weight head bound) count = count

-- "Basic and choice: weight 1, need the body's length. Constraint: weight 1, need the bound. Weight rule: as written."
abbrev pub need_for : SheetKind → ℕ → ℕ
need_for (Basic head) length = length
need_for (Constraint head bound) length = bound
need_for (Choice heads) length = length
need_for (Weight head bound) length = bound

unfoldable pub weights_at : List ℕ → ℕ → ℕ → Result Span Refusal
weights_at s count at = in_turn (weight_at s) count 0 (span count at at)

-- the rule whose lists were read, with its weights
unfoldable pub weighed_at : List ℕ → SheetKind → ℕ → Span → Span → Result SheetRule Refusal
weighed_at s kind need positive negated =
    read_then Err (weights_at s (weights_due kind positive.value) negated.next)
    (λ above. read_then Err (weights_at s (weights_due kind negated.value) above.next)
    (λ below. Ok (record {
      kind = kind;
      need = need;
      positive = record { atoms = positive; weights = above };
      negated = record { atoms = negated; weights = below };
      next = below.next;
    })))

-- the rule of this kind whose body is at a place
unfoldable pub body_at : List ℕ → ℕ → SheetKind → ℕ → Result SheetRule Refusal
body_at s n kind at =
    read_then Err (list_at s 0 n at)
    (λ positive. read_then Err (list_at s 0 n positive.next)
    (λ negated. weighed_at s kind (need_for kind (positive.value + negated.value)) positive negated))

-- a rule, unless its need is above a sum: then 16, at the place of its bound
unfoldable pub unless_above : ℕ → ℕ → SheetRule → Result SheetRule Refusal
unless_above sum bound rule = pick (ltb sum rule.need) (Err (refusal BoundTooHigh bound)) (Ok rule)

-- a rule that was read in full, unless its need is above the sum of its own weights; a refusal is handed up
unfoldable pub unless_dead : List ℕ → ℕ → Result SheetRule Refusal → Result SheetRule Refusal
unless_dead s bound got = read_then Err got (λ rule. unless_above (weight_sum (rule_meant s rule)) bound rule)
