-- `read_weights` meets its contract. The loop's invariant: the run of the weights that are left, from here on, is the whole answer, and those
-- before are added up. It holds where the loop begins, since `short_weights` hands over just that.
use Prim.Native.Nat.{◌≤◌, ◌-◌}
use mathlib.Core.Path.{◌≡◌}
use Rattle.numbers.specs.Answer.{span}
use Rattle.numbers.specs.Lists.{in_turn}
use Rattle.sheet.specs.Body.{weight_at, weights_at}
use Rattle.sheet.specs.Inner.Sums.{AddedUp}
use Rattle.sheet.proofs.body.read_weights.Given as goal

abbrev pub invariant-loop : goal.invariant-loop
invariant-loop l =
    (l.counter ≤ l.count) × (in_turn (weight_at l.s) (l.count - l.counter) 0 (span l.count l.first l.at) ≡ weights_at l.s l.count l.first)
    × AddedUp l.s l.before l.count l.first l.counter l.sum l.at

abbrev pub decreases-loop : goal.decreases-loop
decreases-loop l = l.count - l.counter
