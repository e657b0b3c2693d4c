-- A rule is dead exactly when its body holds for no sets: no literals weigh more than all of them together, and all of them count where C
-- has every atom and S none. Weights of 1 add up to the number of the literals.
use Prim.Native.Nat.{ℕ, ◌+◌, ◌≤◌}
use mathlib.Core.Path.{◌≡◌, refl, ap}
use mathlib.Core.Bool.{false}
use mathlib.Core.List.{List, [], ◌∷◌}
use native.Mathlib.Omega.{arith}
use lib.ListN.{length}
use Rattle.rules.specs.Sum.{tally}
use Rattle.rules.specs.Rule.{Rule, Weighted, ones}
use Rattle.rules.specs.Stable.{Set, outside, gain, value, everything, weight_sum, Holds, Dead, Living}
use Rattle.rules.proofs.Sum.{tally_mono}

gain_most : (p : Set) (ls : List Weighted) → gain p ls ≤ gain everything ls
gain_most p ls = tally_mono (λ (l : Weighted). p l.atom) (λ l. everything l.atom) (λ l. l.weight) ls (λ l m t. tt)

pub value_most : (r : Rule) (p q : Set) → value r p q ≤ weight_sum r
unfolding value
value_most r p q = omega (arith, gain_most p r.pos, gain_most q r.neg)

pub dead_never : (r : Rule) → Dead r → (S C : Set) → Holds r S C → ⊥
dead_never r dead S C holds = omega (arith, value_most r C (outside S))

abbrev pub no_atoms : Set
no_atoms a = false

pub living_holds : (r : Rule) → Living r → Holds r no_atoms everything
living_holds r living = living

-- weights of 1, added up
pub ones_sum : (xs : List ℕ) → gain everything (ones xs) ≡ length xs
unfolding tally
ones_sum [] = refl
ones_sum (x ∷ xs) = omega (arith, ones_sum xs)

pub plain_sum : (r : Rule) (xs ys : List ℕ) → r.pos ≡ ones xs → r.neg ≡ ones ys → weight_sum r ≡ length xs + length ys
unfolding value
plain_sum r xs ys e f =
    omega (arith, ones_sum xs, ones_sum ys, ap (gain everything) e, ap (gain everything) f)

-- so a rule in which each literal weighs 1, and whose need is their number, lives
pub length_living :
    (r : Rule) (xs ys : List ℕ) → r.pos ≡ ones xs → r.neg ≡ ones ys → r.need ≡ length xs + length ys → Living r
length_living r xs ys e f n = omega (arith, n, plain_sum r xs ys e f)
