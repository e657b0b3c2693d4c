-- `repeats::same::same_pairs`: the pairs before the present two are the same, each with its own.
use Rattle.repeats.specs.Inner.Same.{SameRuns}
use Rattle.repeats.proofs.same.same_pairs.Given as goal

abbrev pub invariant-loop-j : goal.invariant-loop-j
invariant-loop-j l = SameRuns l.code l.from l.j l.other
