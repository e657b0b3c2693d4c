-- `copy_weights` meets its contract. The loop's invariant: what is left of the weights, written from here on, is all of them, ends at the
-- same place and has the same mark.
use native.Mathlib.Omega.{arith}
use Rattle.table.specs.Inner.Words.{pair_width}
use Rattle.decode.proofs.Taken.{number_fits}
use Rattle.decode.proofs.pairs.Weights.{weights_begin, weights_turn, weights_done}
use Rattle.decode.proofs.pairs.copy_weights.Goals as goal

pub loop-j-init : goal.loop-j-init
loop-j-init c = weights_begin _ _ _ _ _ _ c.requires.order c.carried-mark.ensures

pub set_word-requires-clause-inside : goal.set_word-requires-clause-inside
unfolding pair_width
set_word-requires-clause-inside c = omega (arith, c.loop-j.invariant.long, c.requires.room)

pub set_word-requires-clause-fits : goal.set_word-requires-clause-fits
set_word-requires-clause-fits c = number_fits c.args.s.now c.loop-j.next c.take_number-weight.ensures

pub mixed-mark-requires : goal.mixed-mark-requires
mixed-mark-requires c =
    let l = c.loop-j in
    number_fits c.args.s.now l.next c.take_number-weight.ensures

pub loop-j-preserved : goal.loop-j-preserved
unfolding pair_width
loop-j-preserved c =
    weights_turn _ _ _ _ _ _ _ _ _ _ c.loop-j.invariant c.loop-j-test.true c.take_number-weight.ensures c.set_word.ensures
    c.mixed-mark.ensures

pub shape_of-code : goal.shape_of-code
shape_of-code c = c.loop-j.invariant.long

pub returns : goal.returns
returns c = weights_done _ _ _ _ _ _ _ _ _ _ c.loop-j.invariant c.loop-j-test.false
