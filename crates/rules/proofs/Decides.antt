-- What an answer of yes or no tells, once it is known.
use mathlib.Core.Path.{◌≡◌, subst}
use mathlib.Core.Bool.{Bool, true, false}
use Rattle.rules.specs.Inner.Decides.{Decides}

pub is_so : {b : Bool} {Q : Type 0} → b ≡ true → Decides b Q → Q
is_so {Q = Q} e d = (subst (λ (b : Bool). Decides b Q) e d).decides

pub not_so : {b : Bool} {Q : Type 0} → b ≡ false → Decides b Q → Q → ⊥
not_so {Q = Q} e d = (subst (λ (b : Bool). Decides b Q) e d).decides

-- what is told of a fact is told of one that is so exactly when it is
pub decides_as : (b : Bool) {P Q : Type 0} → (P → Q) → (Q → P) → Decides b P → Decides b Q
decides_as true f g d = record { decides = f d.decides }
decides_as false f g d = record { decides = λ q. d.decides (g q) }
