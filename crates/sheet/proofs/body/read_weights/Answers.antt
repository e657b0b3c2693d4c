-- `read_weights` meets its contract. The loop's invariant: the run of the weights that are left, from here on, is the whole answer, and those
-- before are added up. It holds where the loop begins, since `short_weights` hands over just that.
use mathlib.Core.Path.{sym, ◌∙◌}
use native.Mathlib.Omega.{arith}
use Rattle.rules.specs.Limits.{weight_most, number_most}
use Rattle.numbers.proofs.number.Most.{limited, number_most_law}
use Rattle.numbers.proofs.lists.Laws.{turn, turn_out, turned}
use Rattle.sheet.specs.Body.{weight_at, weights_at}
use Rattle.sheet.proofs.body.Laws.{weights_alike}
use Rattle.sheet.proofs.body.Sums.{added_weight, added_most, added_all, sum_got, sum_out}
use Rattle.sheet.proofs.body.read_weights.Goals as goal

pub loop-init : goal.loop-init
unfolding weights_at
loop-init c =
    let a = c.short_weights-short.ensures in
    (omega (arith, a.ahead.few), a.ahead.rest, a.added)

pub returns-in_default : goal.returns-in_default
unfolding weight_at weight_most
returns-in_default c =
    let l = c.loop in
    sum_out _ _ _ _ _ _
    (turn_out _ _ l.counter _ _ l.invariant.1 c.loop-test.true
    c.read_within-got.ensures _ c.in_default.is)
    c.in_default.is

pub overflow_add-sum : goal.overflow_add-sum
unfolding number_most
overflow_add-sum c =
    let pre = c.requires in
    let weight = limited _ _ _ _ _ (sym c.read_within-got.ensures ∙ c.in-Ok.is) in
    omega (arith, added_most _ _ _ _ _ _ _ c.loop.invariant.2 pre.few, pre.fits, number_most_law _ _ _ weight.number)

pub loop-preserved : goal.loop-preserved
unfolding weight_at weight_most
loop-preserved c =
    let l = c.loop in
    let here = c.loop-test.true in
    let one = c.in-Ok.is in (
      omega arith,
      weights_alike _ _ _ _ _ ∙ turn _ _ l.counter _ _ l.invariant.1 here c.read_within-got.ensures _ one,
      added_weight _ _ _ _ l.counter l.sum l.at l.invariant.2 here c.read_within-got.ensures _ one,
    )

pub returns : goal.returns
returns c =
    let l = c.loop in
    let over = c.loop-test.false in
    sum_got _ _ _ _ c.new.result c.new.ensures (turned _ _ l.counter _ _ l.invariant.1 over)
    (added_all _ _ _ _ l.counter l.sum l.at l.invariant.2 over)
