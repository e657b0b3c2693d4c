-- The bytes of a sheet, and which sheets can be written: "In order: edition (1); atom count n (0 to 512); rule count (0 to 2,048); the
-- rules; the compute-in list; the compute-out list; nothing more." "A rule is one of four kinds, each with its own head part: 1 basic:
-- head, body; 2 constraint: head, bound, body; 3 choice: head list (count 1 to n, strictly increasing), body; 5 weight: head, bound, body,
-- then one weight (0 to 1,000,000) for each positive and then for each negative literal, in body order." A rule "whose need is above the
-- sum of its own weights is refused".
use mathlib.Core.List.{List, [], ◌∷◌, ◌++◌, flat_map, Memᴰ}
use Rattle.std.specs.Prelude.{ℕ, ◌+◌, ◌≤◌, ◌≡◌, length}
use Rattle.rules.specs.Limits.{atoms_most, rules_most, weight_most, number_most}
use Rattle.rules.specs.Rule.{Rule, Weighted, Sheet, Within, basic_rule, constraint_rule, choice_rule, weight_rule, atoms_of, kind_number, weights_of}
use Rattle.rules.specs.Stable.{Living}
use Rattle.rules.specs.declared.kind.Kind.{Kind}
use Rattle.rules.specs.declared.kind.Kind.TheVariants.{Basic as basic, Constraint as constraint, Choice as choice, Weight as weight}
use Rattle.numbers.specs.Shown.Encode.{number_bytes, numbers_bytes, list_bytes, Linked, Rising}

abbrev pub body_bytes : Rule → List ℕ
body_bytes r = list_bytes (atoms_of r.pos) ++ list_bytes (atoms_of r.neg)

abbrev pub kind_bytes : Kind → Rule → List ℕ
kind_bytes basic r = number_bytes (kind_number basic) ++ (numbers_bytes r.heads ++ body_bytes r)
kind_bytes constraint r = number_bytes (kind_number constraint) ++ (numbers_bytes r.heads ++ (number_bytes r.need ++ body_bytes r))
kind_bytes choice r = number_bytes (kind_number choice) ++ (list_bytes r.heads ++ body_bytes r)
kind_bytes weight r =
    number_bytes (kind_number weight)
    ++ (numbers_bytes r.heads
    ++ (number_bytes r.need ++ (body_bytes r ++ (numbers_bytes (weights_of r.pos) ++ numbers_bytes (weights_of r.neg)))))

unfoldable pub rule_bytes : Rule → List ℕ
rule_bytes r = kind_bytes r.kind r

-- so many bytes of a rule with a bound come before it
abbrev pub before_bound : Rule → ℕ
before_bound r = length (number_bytes (kind_number r.kind) ++ numbers_bytes r.heads)

abbrev pub rules_bytes : List Rule → List ℕ
rules_bytes rs = flat_map rule_bytes rs

-- the first bytes of a sheet: the edition, the counts, and so many of the rules
abbrev pub first_bytes : ℕ → ℕ → List Rule → List ℕ
first_bytes n count rs = number_bytes 1 ++ (number_bytes n ++ (number_bytes count ++ rules_bytes rs))

unfoldable pub encode : Sheet → List ℕ
encode sh =
    first_bytes sh.atoms (length sh.rules) sh.rules ++ (list_bytes sh.compute_in ++ list_bytes sh.compute_out)

pub record LightOne (before w : ℕ) : Type 0 where
  pub most : w ≤ weight_most

-- weights within their limit
abbrev pub Light : List ℕ → Type 0
Light ws = Linked LightOne 0 ws

-- a rule of one of the four kinds, over n atoms
pub data ProperRule (n : ℕ) (r : Rule) : Type 0 where
  is_basic : (h : ℕ) (xs ys : List ℕ) → r ≡ basic_rule h xs ys → Within n h → Rising n xs → Rising n ys → ProperRule n r
  is_constraint :
      (h k : ℕ) (xs ys : List ℕ) → r ≡ constraint_rule h k xs ys → Within n h → k ≤ number_most → Rising n xs → Rising n ys
      → ProperRule n r
  is_choice :
      (hs xs ys : List ℕ) → r ≡ choice_rule hs xs ys → 1 ≤ length hs → Rising n hs → Rising n xs → Rising n ys → ProperRule n r
  is_weight :
      (h k : ℕ) (xs ys : List Weighted) → r ≡ weight_rule h k xs ys → Within n h → k ≤ number_most → Rising n (atoms_of xs)
      → Rising n (atoms_of ys) → Light (weights_of xs) → Light (weights_of ys) → ProperRule n r

pub data ProperRules (n : ℕ) : List Rule → Type 0 where
  no_rules : ProperRules n []
  and_rule : {r : Rule} {rs : List Rule} → ProperRule n r → ProperRules n rs → ProperRules n (r ∷ rs)

-- every need is at most the sum of its rule's weights
abbrev pub AllLiving : List Rule → Type 0
AllLiving rs = (r : Rule) → Memᴰ r rs → Living r

-- a sheet within the limits, with no dead bound
pub record WellFormed (sh : Sheet) : Type 0 where
  pub atoms : sh.atoms ≤ atoms_most
  pub count : length sh.rules ≤ rules_most
  pub rules : ProperRules sh.atoms sh.rules
  pub living : AllLiving sh.rules
  pub compute_in : Rising sh.atoms sh.compute_in
  pub compute_out : Rising sh.atoms sh.compute_out

-- the heads and the literals of a rule, and of rules, counted
abbrev pub rule_size : Rule → ℕ
rule_size r = length r.heads + (length r.pos + length r.neg)

unfoldable pub rules_size : List Rule → ℕ
rules_size [] = 0
rules_size (r ∷ rs) = rule_size r + rules_size rs
