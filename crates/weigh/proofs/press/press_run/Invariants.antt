-- `weigh::press::press_run`: the pairs before the present one are pressed.
use Rattle.std.proofs.Common.{Ok}
use Rattle.weigh.specs.Inner.Press.{Presses}
use Rattle.weigh.proofs.press.press_run.Given as goal

abbrev pub invariant-loop-j : goal.invariant-loop-j
invariant-loop-j l = Presses l.row.code.now l.row.atoms l.from l.to l.least l.v l.initial.m l.j l.m (Ok l.grew)
