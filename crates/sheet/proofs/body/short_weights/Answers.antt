-- `short_weights` meets its contract. The loop's invariant: the run of the weights up to here is read, one byte each, and they are added up. A
-- byte that is at most the lesser of the two limits is such a weight.
use Prim.Native.Nat.{ℕ, ◌≤◌, ◌<◌}
use mathlib.Core.Path.{subst, sym}
use native.Mathlib.Omega.{arith}
use Rattle.rules.specs.Limits.{weight_most, number_most}
use Rattle.numbers.proofs.short.Laws.{past_from, past_there}
use Rattle.sheet.proofs.body.Sums.{added_from, added_ahead, added_most}
use Rattle.sheet.proofs.body.short_weights.Goals as goal

pub loop-at-init : goal.loop-at-init
loop-at-init c = (added_from _, subst (λ (end : ℕ). c.args.first ≤ end) (sym c.past_bytes-end.ensures) (past_from c.args.s.now c.args.count c.args.first))

pub bounds-s-at : goal.bounds-s-at
bounds-s-at c =
    let l = c.loop-at in
    past_there _ _ _ _ l.invariant.0.ahead.begun
    (subst (λ (end : ℕ). l.at < end) c.past_bytes-end.ensures c.loop-at-test.true)

pub overflow_add-sum : goal.overflow_add-sum
unfolding number_most
overflow_add-sum c =
    let pre = c.requires in
    omega (arith, added_most _ _ _ _ _ _ _ c.loop-at.invariant.0.added pre.few, pre.fits, c.from-weight.ensures, c.type_inv.s c.loop-at.at)

pub loop-at-preserved : goal.loop-at-preserved
unfolding weight_most
loop-at-preserved c = (
  added_ahead _ c.loop-at.invariant.0 c.past_bytes-end.ensures c.loop-at-test.true c.min-most.ensures
      c.from-weight.ensures
      c.if-most-weight.false,
  omega (arith, c.loop-at-test.true),
)
