-- `short_atoms` meets its contract. The loop's invariant: the run has been read up to here, one byte each.
use Prim.Native.Nat.{◌+◌}
use native.Mathlib.Omega.{arith}
use Rattle.numbers.proofs.short.Laws.{past_from, past_there, none_ahead, atoms_ahead}
use Rattle.numbers.proofs.lists.short_atoms.Goals as goal

pub loop-at-init : goal.loop-at-init
loop-at-init c =
    let a = c.args in
    (none_ahead _ _ _, omega (arith, c.past_bytes-end.ensures, past_from a.s.now a.count a.first))

pub bounds-s-at : goal.bounds-s-at
bounds-s-at c =
    let a = c.args in
    past_there a.s.now a.count a.first c.loop-at.at c.loop-at.invariant.0.begun (omega (arith, c.past_bytes-end.ensures))

pub bounds-s-at-in-loop-at : goal.bounds-s-at-in-loop-at
bounds-s-at-in-loop-at c =
    let a = c.args in
    let h = c.loop-at.invariant.0.begun in
    past_there a.s.now a.count a.first (c.loop-at.at + 1) (omega arith) (omega (arith, c.past_bytes-end.ensures))

pub loop-at-preserved : goal.loop-at-preserved
loop-at-preserved c =
    let l = c.loop-at in (
      atoms_ahead _ _ _ _ _ _ c.past_bytes-end.ensures c.min-most.ensures l.above l.at c.from-atom.result
          c.from-next.result
          l.invariant.0
          c.loop-at-test.true
          c.from-atom.ensures
          c.from-next.ensures
          c.if-atom-above.false
          c.if-next-atom.false
          c.if-most-next.false,
      omega arith,
    )
