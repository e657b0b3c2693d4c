-- `weigh::step::put`: the byte read is the atom's side, and the byte written is its only change.
use mathlib.Core.Path.{refl, sym, ◌∙◌}
use Rattle.rules.proofs.Bytes.{side_at}
use Rattle.weigh.proofs.step.put.Goals as goal

pub returns-then-x-v : goal.returns-then-x-v
returns-then-x-v c =
    let a = c.args in
    let at = side_at a.n a.m.now a.a c.requires.within in record { put = (refl, at ∙ c.if-x-v.true) }

pub returns-then-x-ne-OPEN : goal.returns-then-x-ne-OPEN
returns-then-x-ne-OPEN c =
    let a = c.args in
    let at = side_at a.n a.m.now a.a c.requires.within in
    record { put = (refl, (λ e. c.if-x-v.false (sym at ∙ e), λ e. c.if-x-ne-OPEN.true (sym at ∙ e))) }

pub returns : goal.returns
returns c =
    let a = c.args in
    let at = side_at a.n a.m.now a.a c.requires.within in
    record { put = (refl, at ∙ c.if-x-ne-OPEN.false) }
