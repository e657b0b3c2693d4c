-- `forcing::rounds::first_with`: the first place of the n bytes at which the byte is v.
use mathlib.Core.Path.{sym, subst}
use Rattle.std.specs.Prelude.{Option, ℕ}
use Rattle.forcing.specs.Inner.Rounds.{FirstWith}
use Rattle.forcing.proofs.Closings.{first_found}
use Rattle.forcing.proofs.rounds.first_with.Goals as goal

pub returns : goal.returns
returns c =
    let a = c.args in
    subst (λ (r : Option ℕ). FirstWith a.v a.n a.m.now r) (sym c.first_of.ensures) (first_found a.v a.n a.m.now c.requires)
