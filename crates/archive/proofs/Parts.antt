-- Every part of a sheet's rule is a number of a sheet: its kind is at most 5, its need is one, its lists have at most n atoms, all of
-- them at most n, and its weights are light.
use Prim.Native.Nat.{ℕ, ◌≤◌}
use mathlib.Core.Bool.{Bool, true, false}
use mathlib.Core.List.{List, Memᴰ}
use native.Mathlib.Omega.{arith}
use lib.ListN.{length, length-map}
use lib.Dec.{ltb, eqb}
use borrow.Author.Tests.{ltb-true}
use Rattle.std.specs.Prelude.{Option, Some, None}
use Rattle.rules.specs.Limits.{atoms_most, weight_most, number_most}
use Rattle.rules.specs.Rule.{Rule, Weighted, body, kind_number, atoms_of, weights_of, item_of, part_of}
use Rattle.rules.specs.declared.kind.Kind.{Kind}
use Rattle.rules.specs.declared.kind.Kind.TheVariants.{Basic as basic, Constraint as constraint, Choice as choice, Weight as weight}
use Rattle.rules.proofs.Members.{index_mem}
use Rattle.numbers.specs.Shown.Encode.{Rising}
use Rattle.numbers.proofs.Places.{pick_so}
use Rattle.numbers.proofs.lists.Whole.{rising_few}
use Rattle.sheet.proofs.Sound.{Sound, linked_each, rising_within}

-- a part of a rule is a number of a sheet, or nothing
pub data Numeric : Option ℕ → Type 0 where
  number : (v : ℕ) → v ≤ number_most → Numeric (Some v)
  none : Numeric None

item_numeric : (xs : List ℕ) (i : ℕ) → ((x : ℕ) → Memᴰ x xs → x ≤ number_most) → Numeric (item_of xs i)
unfolding item_of
item_numeric xs i most =
    pick_so Numeric (ltb i (length xs)) _ _ (λ e. number _ (most _ (index_mem xs i 0 (ltb-true i (length xs) e)))) (λ _. none)

kind_numeric : (kind : Kind) → kind_number kind ≤ number_most
unfolding number_most
kind_numeric basic = omega arith
kind_numeric constraint = omega arith
kind_numeric choice = omega arith
kind_numeric weight = omega arith

module _ (n : ℕ) (few : n ≤ atoms_most) where
  count_numeric : (xs : List ℕ) → Rising n xs → length xs ≤ number_most
  unfolding atoms_most number_most
  count_numeric xs rises = omega (arith, rising_few n rises (omega arith))

  atom_numeric : (xs : List ℕ) → Rising n xs → (i : ℕ) → Numeric (item_of xs i)
  unfolding atoms_most number_most
  atom_numeric xs rises i = item_numeric xs i (λ x among. omega (arith, (rising_within rises among).high))

  module _ (r : Rule) (sound : Sound n r) (s : Bool) where
    literals_numeric : length (body r s) ≤ number_most
    literals_numeric = omega (arith, count_numeric (atoms_of (body r s)) (sound.atoms s), length-map (body r s) (λ (l : Weighted). l.atom))

    literal_numeric : (i : ℕ) → Numeric (item_of (atoms_of (body r s)) i)
    literal_numeric i = atom_numeric (atoms_of (body r s)) (sound.atoms s) i

    weight_numeric : (i : ℕ) → Numeric (item_of (weights_of (body r s)) i)
    unfolding weight_most number_most
    weight_numeric i =
        item_numeric (weights_of (body r s)) i
        (λ w among. omega (arith, linked_each (λ x. x ≤ weight_most) (λ before x q. q.most) (sound.light s) among))

pub part_numeric : (n : ℕ) (r : Rule) (p i : ℕ) → n ≤ atoms_most → Sound n r → Numeric (part_of r p i)
unfolding part_of
part_numeric n r p i few sound =
    pick_so Numeric (eqb p 0) _ _ (λ _. number _ (kind_numeric r.kind))
    (λ _. pick_so Numeric (eqb p 1) _ _ (λ _. number _ sound.need)
    (λ _. pick_so Numeric (eqb p 2) _ _ (λ _. number _ (count_numeric n few r.heads sound.heads))
    (λ _. pick_so Numeric (eqb p 3) _ _ (λ _. atom_numeric n few r.heads sound.heads i)
    (λ _. pick_so Numeric (eqb p 4) _ _ (λ _. number _ (literals_numeric n few r sound true))
    (λ _. pick_so Numeric (eqb p 5) _ _ (λ _. literal_numeric n few r sound true i)
    (λ _. pick_so Numeric (eqb p 6) _ _ (λ _. weight_numeric n few r sound true i)
    (λ _. pick_so Numeric (eqb p 7) _ _ (λ _. number _ (literals_numeric n few r sound false))
    (λ _. pick_so Numeric (eqb p 8) _ _ (λ _. literal_numeric n few r sound false i)
    (λ _. pick_so Numeric (eqb p 9) _ _ (λ _. weight_numeric n few r sound false i)
    (λ _. none))))))))))
