-- What is written for a sheet is bytes: a group is below 128, or 128 and a remainder by 128.
use Prim.Native.Nat.{ℕ, zero, suc, ◌+◌, ◌/◌, ◌%◌, ◌<◌}
use mathlib.Core.Bool.{Bool, true, false}
use mathlib.Core.Path.{◌≡◌, refl}
use mathlib.Core.List.{List, [], ◌∷◌, ◌++◌, flat_map}
use native.Mathlib.Omega.{arith}
use lib.ListN.{length, get_or}
use lib.Dec.{ltb}
use borrow.Author.Tests.{ltb-true}
use Rattle.rules.specs.Rule.{Rule, Sheet, atoms_of, weights_of}
use Rattle.rules.specs.Sum.{pick}
use Rattle.rules.specs.declared.kind.Kind.{Kind}
use Rattle.rules.specs.declared.kind.Kind.TheVariants.{Basic as basic, Constraint as constraint, Choice as choice, Weight as weight}
use Rattle.numbers.specs.Shown.Encode.{groups_of, number_bytes, numbers_bytes, list_bytes, IsBytes}
use Rattle.sheet.specs.Shown.Encode.{body_bytes, kind_bytes, rule_bytes, encode}

no_bytes : IsBytes []
no_bytes = record { byte = λ i. omega arith }

byte_more : {b : ℕ} {s : List ℕ} → b < 256 → IsBytes s → IsBytes (b ∷ s)
byte_more {b} {s} h is = record { byte = by }
  where
    by : (i : ℕ) → get_or (b ∷ s) i 0 < 256
    by zero = h
    by (suc i) = is.byte i

tail_bytes : (b : ℕ) (s : List ℕ) → IsBytes (b ∷ s) → IsBytes s
tail_bytes b s is = record { byte = λ i. is.byte (suc i) }

append_bytes : (s t : List ℕ) → IsBytes s → IsBytes t → IsBytes (s ++ t)
append_bytes [] t hs ht = ht
append_bytes (b ∷ s) t hs ht = byte_more (hs.byte 0) (append_bytes s t (tail_bytes b s hs) ht)

and_then : {s t : List ℕ} → IsBytes s → IsBytes t → IsBytes (s ++ t)
and_then {s} {t} hs ht = append_bytes s t hs ht

groups_bytes : (left v : ℕ) → IsBytes (groups_of left v)
unfolding groups_of pick
groups_bytes zero v = no_bytes
groups_bytes (suc left) v = by (ltb v 128) refl (groups_bytes left (v / 128))
  where
    by :
        (b : Bool) → ltb v 128 ≡ b → IsBytes (groups_of left (v / 128))
        → IsBytes (pick b (v ∷ []) ((128 + v % 128) ∷ groups_of left (v / 128)))
    by true h is = byte_more (omega (arith, ltb-true v 128 h)) no_bytes
    by false h is = byte_more (omega arith) is

number_is : (v : ℕ) → IsBytes (number_bytes v)
unfolding number_bytes
number_is v = groups_bytes 4 v

each_is : {A : Type 0} (f : A → List ℕ) → ((a : A) → IsBytes (f a)) → (l : List A) → IsBytes (flat_map f l)
unfolding flat_map
each_is f h [] = no_bytes
each_is f h (a ∷ l) = and_then (h a) (each_is f h l)

numbers_are : (xs : List ℕ) → IsBytes (numbers_bytes xs)
numbers_are xs = each_is number_bytes number_is xs

list_is : (xs : List ℕ) → IsBytes (list_bytes xs)
list_is xs = and_then (number_is (length xs)) (numbers_are xs)

body_is : (r : Rule) → IsBytes (body_bytes r)
body_is r = and_then (list_is (atoms_of r.pos)) (list_is (atoms_of r.neg))

kind_is_law : (k : Kind) (r : Rule) → IsBytes (kind_bytes k r)
kind_is_law basic r = and_then (number_is 1) (and_then (numbers_are r.heads) (body_is r))
kind_is_law constraint r = and_then (number_is 2) (and_then (numbers_are r.heads) (and_then (number_is r.need) (body_is r)))
kind_is_law choice r = and_then (number_is 3) (and_then (list_is r.heads) (body_is r))
kind_is_law weight r =
    and_then (number_is 5)
    (and_then (numbers_are r.heads)
    (and_then (number_is r.need)
    (and_then (body_is r) (and_then (numbers_are (weights_of r.pos)) (numbers_are (weights_of r.neg))))))

rule_is : (r : Rule) → IsBytes (rule_bytes r)
unfolding rule_bytes
rule_is r = kind_is_law r.kind r

pub encode_bytes : (sh : Sheet) → IsBytes (encode sh)
unfolding encode
encode_bytes sh =
    and_then
    (and_then (number_is 1)
    (and_then (number_is sh.atoms) (and_then (number_is (length sh.rules)) (each_is rule_bytes rule_is sh.rules))))
    (and_then (list_is sh.compute_in) (list_is sh.compute_out))
