-- `forcing::pass::place`: each branch is a clause of the definition.
use mathlib.Core.Path.{sym, ap}
use mathlib.Core.Bool.{Bool}
use Rattle.forcing.specs.Inner.Pass.{placed}
use Rattle.forcing.proofs.pass.place.Goals as goal

pub returns-then-down : goal.returns-then-down
unfolding placed
returns-then-down c = let a = c.args in ap (λ (d : Bool). placed d a.count a.i) (sym c.if-down.true)

pub returns-else-down : goal.returns-else-down
unfolding placed
returns-else-down c = let a = c.args in ap (λ (d : Bool). placed d a.count a.i) (sym c.if-down.false)
