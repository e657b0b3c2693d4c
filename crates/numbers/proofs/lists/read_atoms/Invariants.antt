-- `read_atoms` meets its contract: the atoms of one byte are passed first. The loop's invariant: the run of the atoms that are left, from here on, is the whole answer.
use Prim.Native.Nat.{◌≤◌, ◌-◌}
use mathlib.Core.Path.{◌≡◌}
use Rattle.numbers.specs.Answer.{span}
use Rattle.numbers.specs.Lists.{in_turn, atom_at}
use Rattle.numbers.proofs.lists.read_atoms.Given as goal

abbrev pub invariant-loop : goal.invariant-loop
invariant-loop l =
    (l.counter ≤ l.count)
    × (in_turn (atom_at l.s l.n) (l.count - l.counter) l.above (span l.count l.first l.at) ≡ in_turn (atom_at l.s l.n) l.count 0 (span l.count l.first l.first))

abbrev pub decreases-loop : goal.decreases-loop
decreases-loop l = l.count - l.counter
