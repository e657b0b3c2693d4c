-- `short_weights` meets its contract. The loop's invariant: the run of the weights up to here is read, one byte each, and they are added up. A
-- byte that is at most the lesser of the two limits is such a weight.
use Prim.Native.Nat.{◌-◌, ◌≤◌}
use Rattle.sheet.specs.Inner.Sums.{AddedAhead}
use Rattle.sheet.proofs.body.short_weights.Given as goal

abbrev pub invariant-loop-at : goal.invariant-loop-at
invariant-loop-at l = AddedAhead l.s l.before l.count l.first l.sum l.at × (l.at ≤ l.end)

abbrev pub decreases-loop-at : goal.decreases-loop-at
decreases-loop-at l = l.end - l.at
