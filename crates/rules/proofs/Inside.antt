-- Whether a number is one of 1 to n, as the test and as the fact; and the numbers that are made where it is.
use Prim.Native.Nat.{ℕ}
use Rattle.std.specs.Prelude.{Some, None}
use mathlib.Core.Path.{◌≡◌, refl, ap}
use mathlib.Core.Logic.{◌⊎◌, inl, inr, ⊎_elim}
use mathlib.Core.Bool.{Bool, true, false, not}
use native.Mathlib.Omega.{arith}
use lib.Dec.{T, leb, leb→le, le→leb, T_not}
use Rattle.rules.specs.Rule.{Within}
use Rattle.rules.specs.Map.{inside}
use Rattle.rules.specs.Sum.{pick}
use Rattle.rules.specs.Number.{checked_atom, checked_rule}
use Rattle.rules.specs.declared.Atom.{Atom}
use Rattle.rules.specs.declared.RuleNo.{RuleNo}
use Rattle.rules.proofs.Tests.{and_T, T_and_left, T_and_right, T_true, T_false, true_T, decided}

pub inside_within : (n a : ℕ) → T (inside n a) → Within n a
inside_within n a t =
    record { low = leb→le 1 a (T_and_left (leb 1 a) (leb a n) t); high = leb→le a n (T_and_right (leb 1 a) (leb a n) t) }

pub within_inside : {n a : ℕ} → Within n a → T (inside n a)
within_inside {n} {a} w = and_T (leb 1 a) (leb a n) (le→leb 1 a w.low) (le→leb a n w.high)

pub inside_true : {n a : ℕ} → Within n a → inside n a ≡ true
inside_true {n} {a} w = T_true (inside n a) (within_inside w)

pub inside_false : {n a : ℕ} → (Within n a → ⊥) → inside n a ≡ false
inside_false {n} {a} f = T_false (inside n a) (λ t. f (inside_within n a t))

pub within? : (n a : ℕ) → Within n a ⊎ (Within n a → ⊥)
within? n a =
    ⊎_elim
    (λ (t : T (inside n a)). inl (inside_within n a t))
    (λ (t : T (not (inside n a))). inr (λ w. T_not (inside n a) t (within_inside w)))
    (decided (inside n a))

-- an atom's number, and a rule's, is made of such a number and of no other
pub atom_is : (n a : ℕ) (atom : Atom) → checked_atom n a ≡ Some atom → Within n a × (◌≡◌ {A = Atom} (record { number = a }) atom)
unfolding checked_atom pick
atom_is n a atom e = by (inside n a) refl e
  where
    by : (b : Bool) → inside n a ≡ b → pick b (Some (record { number = a })) None ≡ Some atom → Within n a × (◌≡◌ {A = Atom} (record { number = a }) atom)
    by true h z = (inside_within n a (true_T h), cc)
    by false h z = let w : ◌≡◌ {A = ℕ} 0 1 = cc in absurd (omega arith)

pub atom_made : (n a : ℕ) → Within n a → checked_atom n a ≡ Some (record { number = a })
unfolding checked_atom pick
atom_made n a w = ap (λ (b : Bool). pick b (Some (record { number = a })) None) (inside_true w)

pub rule_is : (n k : ℕ) (rule : RuleNo) → checked_rule n k ≡ Some rule → Within n k × (◌≡◌ {A = RuleNo} (record { number = k }) rule)
unfolding checked_rule pick
rule_is n k rule e = by (inside n k) refl e
  where
    by : (b : Bool) → inside n k ≡ b → pick b (Some (record { number = k })) None ≡ Some rule → Within n k × (◌≡◌ {A = RuleNo} (record { number = k }) rule)
    by true h z = (inside_within n k (true_T h), cc)
    by false h z = let w : ◌≡◌ {A = ℕ} 0 1 = cc in absurd (omega arith)

pub rule_made : (n k : ℕ) → Within n k → checked_rule n k ≡ Some (record { number = k })
unfolding checked_rule pick
rule_made n k w = ap (λ (b : Bool). pick b (Some (record { number = k })) None) (inside_true w)

-- and no number of that kind is made of another
pub no_atom_is : (n a : ℕ) → checked_atom n a ≡ None → Within n a → ⊥
no_atom_is n a e w = let z : ◌≡◌ {A = ℕ} 0 1 = cc (e, atom_made n a w) in omega arith

pub no_rule_is : (n k : ℕ) → checked_rule n k ≡ None → Within n k → ⊥
no_rule_is n k e w = let z : ◌≡◌ {A = ℕ} 0 1 = cc (e, rule_made n k w) in omega arith
