-- `read_rules` meets its contract. The loop's invariant: the run of the rules that are left, from here on, is the whole answer.
use Prim.Native.Nat.{◌≤◌, ◌-◌}
use mathlib.Core.Path.{◌≡◌}
use Rattle.numbers.specs.Answer.{span}
use Rattle.numbers.specs.Lists.{in_turn}
use Rattle.sheet.specs.Rule.{rule_step, rules_at}
use Rattle.sheet.proofs.rule.read_rules.Given as goal

abbrev pub invariant-loop : goal.invariant-loop
invariant-loop l = (l.counter ≤ l.count) × (in_turn (rule_step l.s l.n) (l.count - l.counter) 0 (span l.count l.first l.at) ≡ rules_at l.s l.n l.count l.first)

abbrev pub decreases-loop : goal.decreases-loop
decreases-loop l = l.count - l.counter
