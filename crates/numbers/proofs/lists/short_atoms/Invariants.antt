-- `short_atoms` meets its contract. The loop's invariant: the run has been read up to here, one byte each.
use Prim.Native.Nat.{◌-◌, ◌≤◌}
use Rattle.numbers.specs.Lists.{atom_at}
use Rattle.numbers.specs.Inner.Short.{Ahead}
use Rattle.numbers.proofs.lists.short_atoms.Given as goal

abbrev pub invariant-loop-at : goal.invariant-loop-at
invariant-loop-at l = Ahead (atom_at l.s l.n) l.count l.first l.above l.at × (l.at ≤ l.end)

abbrev pub decreases-loop-at : goal.decreases-loop-at
decreases-loop-at l = l.end - l.at
