-- `forcing::support::count_all`: the rules before the present one are counted.
use Rattle.rules.specs.Map.{side}
use Rattle.forcing.proofs.Counting.{Counting}
use Rattle.forcing.proofs.support.count_all.Given as goal

abbrev pub invariant-loop-i : goal.invariant-loop-i
invariant-loop-i l = Counting l.t.code.now l.t.atoms l.t.rules (side l.t.atoms l.m) l.i l.counts
