-- `forcing::support::count_heads`: the heads before the present one are counted.
use Rattle.rules.specs.Map.{side}
use Rattle.forcing.proofs.Counting.{Heading}
use Rattle.forcing.proofs.support.count_heads.Given as goal

abbrev pub invariant-loop-j : goal.invariant-loop-j
invariant-loop-j l = Heading l.row.code.now l.row.atoms l.row.at (side l.row.atoms l.m) l.initial.counts l.j l.counts
