-- A pass up or down visits every rule: the order is undone by itself.
use Prim.Native.Nat.{ℕ, ◌<◌}
use mathlib.Core.Path.{◌≡◌, refl, subst}
use mathlib.Core.Bool.{Bool, true, false}
use native.Mathlib.Omega.{arith}
use Rattle.rules.specs.Map.{Map}
use Rattle.weigh.specs.Inner.Step.{Till}
use Rattle.forcing.specs.Inner.Pass.{placed}

pub placed_less : (down : Bool) (count i : ℕ) → i < count → placed down count i < count
unfolding placed
placed_less true count i h = omega arith
placed_less false count i h = h

placed_twice : (down : Bool) (count i : ℕ) → i < count → placed down count (placed down count i) ≡ i
unfolding placed
placed_twice true count i h = omega arith
placed_twice false count i h = refl

-- what is true of every rule that was visited is true of every rule
pub visited :
    (Q : ℕ → Map → Type 0) (down : Bool) (count : ℕ) (M : Map) → Till (λ k. Q (placed down count k)) 0 count M
    → Till Q 0 count M
visited Q down count M t k l h =
    subst (λ (x : ℕ). Q x M) (placed_twice down count k h)
    (t (placed down count k) (omega arith) (placed_less down count k h))
