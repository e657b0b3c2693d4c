-- `read_rules` meets its contract. The loop's invariant: the run of the rules that are left, from here on, is the whole answer.
use mathlib.Core.Path.{◌≡◌, refl, sym, ap, ◌∙◌}
use native.Mathlib.Nat.{sub-zero}
use native.Mathlib.Omega.{arith}
use Rattle.std.specs.Prelude.{Ok, Err}
use Rattle.std.proofs.Common.{rules}
use Rattle.numbers.proofs.lists.Laws.{turn, turn_out, turned}
use Rattle.sheet.specs.Rule.{rules_at}
use Rattle.sheet.proofs.rule.Laws.{step_got, step_out}
use Rattle.sheet.proofs.rule.read_rules.Goals as goal

pub loop-init : goal.loop-init
unfolding rules_at
loop-init c = (search rules, simp sub-zero)

pub returns-in_err-at : goal.returns-in_err-at
returns-in_err-at c =
    let l = c.loop in
    let out = step_out _ _ 0 l.at _ _ c.read_rule.ensures c.in_err-at.was in
    let up : c.from_residual.result ≡ Err c.in_err-at.field-0.0 = search rules in
    up ∙ sym out ∙ turn_out _ _ l.counter 0 _ l.invariant.1 c.loop-test.true refl _ out

pub loop-preserved : goal.loop-preserved
loop-preserved c =
    let l = c.loop in (
      omega arith,
      turn _ _ l.counter 0 _ l.invariant.1 c.loop-test.true refl _
          (step_got _ _ 0 l.at _ _ c.read_rule.ensures c.in_ok-at.was),
    )

pub returns : goal.returns
returns c =
    let l = c.loop in
    ap Ok c.new.ensures ∙ turned _ _ l.counter _ _ l.invariant.1 c.loop-test.false
