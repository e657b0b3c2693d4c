-- `forcing::ground::founded`: what is gathered has to be in U, and each sweep that adds something leaves fewer atoms outside.
use mathlib.Core.Bool.{false≢true}
use Rattle.forcing.proofs.Founding.{founding_end}
use Rattle.forcing.proofs.ground.founded.Goals as goal

pub returns : goal.returns
returns c =
    let t = c.args.t.now in
    founding_end t.code.now t.atoms t.rules c.args.m.now c.args.u.now c.requires.blank _ _ _
    (λ e. false≢true (rw e at c.loop-down-test.ensures)) c.loop-down.invariant c.ground_all.ensures
