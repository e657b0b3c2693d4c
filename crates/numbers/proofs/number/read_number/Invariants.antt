-- `read_number` meets its contract. A number of one byte is read straight. The loop's invariant: the groups from `at` on, counted by the
-- scale, with the sum of those before, are the number; the sum is below the scale, and the scale is at most 128 for each group passed.
use Prim.Native.Nat.{◌+◌, ◌≤◌, ◌<◌, ◌-◌}
use Rattle.numbers.proofs.number.Laws.{Come}
use Rattle.numbers.proofs.number.read_number.Given as goal

abbrev pub invariant-loop-at : goal.invariant-loop-at
invariant-loop-at l =
    (l.at ≤ l.first + 4) × (l.first < l.at) × (l.sum < l.scale) × Come l.s l.first (l.at - l.first) l.at l.sum l.scale

abbrev pub decreases-loop-at : goal.decreases-loop-at
decreases-loop-at l = l.first + 4 - l.at
