-- `repeats::slots::Kept::find`: what was to be met from where the search began is met from where it has come; links lead down.
use Rattle.repeats.proofs.slots.Laws.{Finding}
use Rattle.repeats.proofs.slots.Kept.find.Given as goal

abbrev pub invariant-loop-number : goal.invariant-loop-number
invariant-loop-number l = Finding l.code l.self l.k l.from l.number

abbrev pub decreases-loop-number : goal.decreases-loop-number
decreases-loop-number l = l.number
