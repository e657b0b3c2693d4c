-- `hold_pairs` meets its contract. The invariant: whatever holding the pairs that are left comes to, holding the run comes to.
use mathlib.Core.Path.{refl}
use Rattle.weigh.proofs.Steps.{clashed}
use Rattle.task.proofs.hold.Laws.{left_next, left_clash, left_end}
use Rattle.task.proofs.hold.hold_pairs.Goals as goal

pub returns-in_err-hold_atom : goal.returns-in_err-hold_atom
returns-in_err-hold_atom c =
    rw (clashed _ c.from_residual.ensures.0)
    (left_clash _ _ _ _ _ _ _ _ c.loop-j.invariant c.loop-j-test.true _ c.atom.ensures _ _ c.in_err-hold_atom.ensures _ refl)

pub loop-j-preserved : goal.loop-j-preserved
loop-j-preserved c =
    left_next _ _ _ _ _ _ _ _ c.loop-j.invariant c.loop-j-test.true _ c.atom.ensures _ _ c.in_ok-hold_atom.ensures _ refl

pub returns : goal.returns
returns c = left_end _ _ _ _ _ _ _ _ c.loop-j.invariant c.loop-j-test.false
