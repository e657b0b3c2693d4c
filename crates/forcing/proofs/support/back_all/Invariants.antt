-- `forcing::support::back_all`: the rules before the present one are backed, or something was added, from where the pass began.
use Rattle.std.proofs.Common.{Ok}
use Rattle.forcing.specs.Inner.Support.{BacksAll}
use Rattle.forcing.proofs.support.back_all.Given as goal

abbrev pub invariant-loop-i : goal.invariant-loop-i
invariant-loop-i l = BacksAll l.t.code.now l.t.atoms l.t.rules l.counts l.i l.initial.m l.m (Ok l.grew)
