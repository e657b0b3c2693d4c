-- `copy_weights` meets its contract. The loop's invariant: what is left of the weights, written from here on, is all of them, ends at the
-- same place and has the same mark.
use Rattle.decode.proofs.pairs.Weights.{WeightsLeft}
use Rattle.decode.proofs.pairs.copy_weights.Given as goal

abbrev pub invariant-loop-j : goal.invariant-loop-j
invariant-loop-j l = WeightsLeft l.s l.initial.code l.from.pair l.to l.from.next l.from.mark l.code l.j l.next l.mark
