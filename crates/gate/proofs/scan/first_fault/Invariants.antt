-- `first_fault` meets its contract. The loop's invariant: what is left of the scan, from here on, is the whole answer.
use Prim.Native.Nat.{◌≤◌, ◌-◌}
use mathlib.Core.Path.{◌≡◌}
use Rattle.gate.specs.Scan.{between, fault_from, first_fault}
use Rattle.gate.proofs.scan.first_fault.Given as goal

abbrev pub invariant-loop-i : goal.invariant-loop-i
invariant-loop-i l = (l.i ≤ l.n) × (fault_from (between l.low l.high) (l.n - l.i) l.i l.m ≡ first_fault (between l.low l.high) l.n l.m)

abbrev pub decreases-loop-i : goal.decreases-loop-i
decreases-loop-i l = l.n - l.i

abbrev pub invariant-whole : goal.invariant-whole
invariant-whole l = Unit {0}

abbrev pub decreases-whole : goal.decreases-whole
decreases-whole l = 0
