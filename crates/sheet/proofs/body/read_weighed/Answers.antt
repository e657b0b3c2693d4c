-- `read_weighed` meets its contract: where the kind has weights, those of the positive literals, and then of the negated; and else the
-- lists are all there is. The lists are no longer than a number, so the sums fit.
use native.Mathlib.Omega.{arith}
use Rattle.std.proofs.Common.{rules}
use Rattle.rules.specs.Limits.{number_most}
use Rattle.sheet.proofs.body.Sums.{sum_most}
use Rattle.sheet.proofs.body.Put.{plain_weighed, above_refused, below_refused, weights_read}
use Rattle.sheet.proofs.body.read_weighed.Goals as goal

pub overflow_add-length : goal.overflow_add-length
unfolding number_most
overflow_add-length c = omega (arith, c.requires)

pub returns-then-is_plain : goal.returns-then-is_plain
returns-then-is_plain c =
    plain_weighed _ _ _ _ _ c.is_plain.ensures c.need-due.ensures _ c.if-is_plain.true
    c.unweighed.ensures
    c.unweighed-then-is_plain.ensures
    c.unless_above.ensures

pub returns-in_err-above : goal.returns-in_err-above
returns-in_err-above c =
    above_refused _ _ _ _ _ c.is_plain.ensures c.need-due.ensures _ c.if-is_plain.false c.read_weights.ensures _
    c.in_err-above.was
    (search rules)

pub read_weights-requires-2 : goal.read_weights-requires-2
unfolding number_most
read_weights-requires-2 c =
    let pre = c.requires in
    record {
      fits = omega (arith, sum_most _ 0 _ _ pre.positive c.read_weights.ensures _ c.in_ok-above.was);
      few = pre.negated;
    }

pub returns-in_err-below : goal.returns-in_err-below
returns-in_err-below c =
    below_refused _ _ _ _ _ c.is_plain.ensures c.need-due.ensures _ c.if-is_plain.false c.read_weights.ensures _
    c.in_ok-above.was
    c.read_weights-2.ensures
    _
    c.in_err-below.was
    (search rules)

pub returns : goal.returns
returns c =
    weights_read _ _ _ _ _ c.is_plain.ensures c.need-due.ensures _ c.if-is_plain.false c.read_weights.ensures _
    c.in_ok-above.was
    c.read_weights-2.ensures
    _
    c.in_ok-below.was
    c.weighed.ensures
    c.weighed-2.ensures
    c.unless_above-2.ensures
