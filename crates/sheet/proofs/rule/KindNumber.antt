-- A kind is the kind of its number, and of no other: the number is looked up among the four.
use Prim.Native.Nat.{ℕ}
use mathlib.Core.Path.{◌≡◌, refl, ap, ◌∙◌}
use mathlib.Core.Bool.{Bool, true, false}
use native.Mathlib.Omega.{arith}
use lib.Dec.{eqb}
use borrow.Author.Tests.{eqb-true}
use Rattle.std.specs.Prelude.{Option, Some}
use Rattle.rules.specs.Rule.{kind_number, checked_kind}
use Rattle.rules.specs.Sum.{pick}
use Rattle.rules.specs.declared.kind.Kind.{Kind}
use Rattle.rules.specs.declared.kind.Kind.TheVariants.{Basic as basic, Constraint as constraint, Choice as choice, Weight as weight}

-- it is found by the number of this kind, or by what is looked at next
module _ (v : ℕ) (kind : Kind) where
  next : (k : Kind) (rest : Option Kind) → (rest ≡ Some kind → v ≡ kind_number kind) → pick (eqb v (kind_number k)) (Some k) rest ≡ Some kind → v ≡ kind_number kind
  unfolding pick
  next k rest then e = by (eqb v (kind_number k)) refl e
    where
      by : (b : Bool) → eqb v (kind_number k) ≡ b → pick b (Some k) rest ≡ Some kind → v ≡ kind_number kind
      by true h z = let w : k ≡ kind = cc in eqb-true v (kind_number k) h ∙ ap (λ (k : Kind). kind_number k) w
      by false h z = then z

  pub kind_is : checked_kind v ≡ Some kind → v ≡ kind_number kind
  unfolding checked_kind
  kind_is e = next basic _ (next constraint _ (next choice _ (next weight _ (λ z. let w : ◌≡◌ {A = ℕ} 0 1 = cc in absurd (omega arith))))) e

pub kind_made : (kind : Kind) → checked_kind (kind_number kind) ≡ Some kind
unfolding checked_kind pick
kind_made basic = refl
kind_made constraint = refl
kind_made choice = refl
kind_made weight = refl
