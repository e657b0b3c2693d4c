-- `copy_atoms` meets its contract. The loop's invariant: what is left of the list, written from here on, is the whole list, ends at the
-- same place and has the same mark.
use Prim.Native.Nat.{◌≤◌, ◌-◌}
use mathlib.Core.Path.{◌≡◌}
use Rattle.rules.specs.Rule.{ones}
use Rattle.numbers.specs.Lists.{numbers_from}
use Rattle.repeats.specs.Inner.Marks.{mixed_all, atoms_mark}
use Rattle.decode.specs.Inner.Taken.{numbers_past}
use Rattle.decode.proofs.pairs.Copy.{PairsLeft}
use Rattle.decode.proofs.pairs.copy_atoms.Given as goal

abbrev pub invariant-loop : goal.invariant-loop
invariant-loop l =
    let from = l.fn.from in
    (l.counter ≤ l.count)
    × PairsLeft l.initial.code from.pair (ones (numbers_from l.count l.s from.next)) l.code l.to.pair (ones (numbers_from (l.count - l.counter) l.s l.to.next))
    × (numbers_past (l.count - l.counter) l.s l.to.next ≡ numbers_past l.count l.s from.next)
    × (mixed_all 0 l.to.mark 0 (numbers_from (l.count - l.counter) l.s l.to.next) ≡ atoms_mark from.mark (numbers_from l.count l.s from.next))
