-- `repeats::slots::Kept::find`: what was to be met from where the search began is met from where it has come; links lead down.
use Rattle.std.proofs.Common.{arith}
use Rattle.rules.specs.Limits.{rules_most}
use Rattle.rules.proofs.Decides.{not_so}
use Rattle.repeats.proofs.slots.Laws.{find_done, find_goes_on}
use Rattle.repeats.proofs.slots.Kept.find.Goals as goal

pub bounds-self-row : goal.bounds-self-row
unfolding rules_most
bounds-self-row c = omega (arith, c.loop-number.invariant.low, c.requires.few)

pub loop-number-preserved : goal.loop-number-preserved
loop-number-preserved c =
    rw c.from-row.ensures
    (find_goes_on _ _ _ _ _ c.loop-number-test.true c.loop-number.invariant c.requires (rw (← c.from-row.ensures) (not_so c.if-same_rule.false c.same_rule.ensures)))

pub returns : goal.returns
returns c = find_done _ _ _ _ _ c.loop-number-test.false c.loop-number.invariant
