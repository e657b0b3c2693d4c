-- "A rule is one of four kinds, each with its own head part." "Each rule has a need and each body literal a weight.
-- Basic and choice: weight 1, need the body's length. Constraint: weight 1, need the bound. Weight rule: as written."
use Rattle.std.specs.Prelude.{ℕ, ◌+◌, ◌-◌, ◌≤◌, ◌≡◌, Bool, true, false, length, get_or, eqb, ltb, Option, Some, None}
use mathlib.Core.List.{List, [], ◌∷◌, map, Memᴰ}
use Rattle.rules.specs.Sum.{pick}
use Rattle.rules.specs.declared.kind.Kind.{Kind}
use Rattle.rules.specs.declared.kind.Kind.TheVariants.{Basic as basic, Constraint as constraint, Choice as choice, Weight as weight}

-- the number by which a sheet writes the kind
abbrev pub kind_number : Kind → ℕ
kind_number basic = 1
kind_number constraint = 2
kind_number choice = 3
kind_number weight = 5

-- the kind of a number that is a kind's; of any other, a weight rule's
unfoldable pub kind_of : ℕ → Kind
kind_of w =
    pick (eqb w (kind_number choice)) choice
    (pick (eqb w (kind_number basic)) basic (pick (eqb w (kind_number constraint)) constraint weight))

-- the kind of this number, where it is a kind's
unfoldable pub checked_kind : ℕ → Option Kind
checked_kind w =
    pick (eqb w (kind_number basic)) (Some basic)
    (pick (eqb w (kind_number constraint)) (Some constraint)
    (pick (eqb w (kind_number choice)) (Some choice) (pick (eqb w (kind_number weight)) (Some weight) None)))

-- a choice rule may give its heads; every other rule must
abbrev pub chooses : Kind → Bool
chooses basic = false
chooses constraint = false
chooses choice = true
chooses weight = false

-- an atom of a body with the weight of its literal
pub record Weighted : Type 0 where
  pub atom : ℕ
  pub weight : ℕ

pub record Rule : Type 0 where
  pub kind : Kind
  pub heads : List ℕ
  pub need : ℕ
  pub pos : List Weighted
  pub neg : List Weighted

-- a literal's sign: true for an atom, false for a negated atom
abbrev pub body : Rule → Bool → List Weighted
body r true = r.pos
body r false = r.neg

abbrev pub weighted : ℕ → ℕ → Weighted
weighted a w = record { atom = a; weight = w }

abbrev pub one : ℕ → Weighted
one a = weighted a 1

abbrev pub ones : List ℕ → List Weighted
ones xs = map one xs

abbrev pub basic_rule : ℕ → List ℕ → List ℕ → Rule
basic_rule h xs ys =
    record { kind = basic; heads = h ∷ []; need = length xs + length ys; pos = ones xs; neg = ones ys }

abbrev pub constraint_rule : ℕ → ℕ → List ℕ → List ℕ → Rule
constraint_rule h k xs ys = record { kind = constraint; heads = h ∷ []; need = k; pos = ones xs; neg = ones ys }

abbrev pub choice_rule : List ℕ → List ℕ → List ℕ → Rule
choice_rule hs xs ys =
    record { kind = choice; heads = hs; need = length xs + length ys; pos = ones xs; neg = ones ys }

abbrev pub weight_rule : ℕ → ℕ → List Weighted → List Weighted → Rule
weight_rule h k xs ys = record { kind = weight; heads = h ∷ []; need = k; pos = xs; neg = ys }

-- "atom count n; the rules; the compute-in list; the compute-out list"
pub record Sheet : Type 0 where
  pub atoms : ℕ
  pub rules : List Rule
  pub compute_in : List ℕ
  pub compute_out : List ℕ

-- "Atoms are numbered 1 to n."
pub record Within (n a : ℕ) : Type 0 where
  pub low : 1 ≤ a
  pub high : a ≤ n

-- the rule of a number, 1 for the first
abbrev pub no_rule : Rule
no_rule = basic_rule 0 [] []

abbrev pub nth_rule : Sheet → ℕ → Rule
nth_rule sh k = get_or sh.rules (k - 1) no_rule

abbrev pub atoms_of : List Weighted → List ℕ
atoms_of ls = map (λ l. l.atom) ls

abbrev pub weights_of : List Weighted → List ℕ
weights_of ls = map (λ l. l.weight) ls

-- the i-th of a list, from 0, or None where the list does not go so far
unfoldable pub item_of : List ℕ → ℕ → Option ℕ
item_of xs i = pick (ltb i (length xs)) (Some (get_or xs i 0)) None

-- "Read a rule by its number: its kind, heads, need, body and weights." The parts by number: 0 kind, 1 need, 2 head count, 3 head,
-- 4 positive count, 5 positive atom, 6 its weight, 7 negative count, 8 negative atom, 9 its weight
unfoldable pub part_of : Rule → ℕ → ℕ → Option ℕ
part_of r p i =
    pick (eqb p 0) (Some (kind_number r.kind))
    (pick (eqb p 1) (Some r.need)
    (pick (eqb p 2) (Some (length r.heads))
    (pick (eqb p 3) (item_of r.heads i)
    (pick (eqb p 4) (Some (length r.pos))
    (pick (eqb p 5) (item_of (atoms_of r.pos) i)
    (pick (eqb p 6) (item_of (weights_of r.pos) i)
    (pick (eqb p 7) (Some (length r.neg))
    (pick (eqb p 8) (item_of (atoms_of r.neg) i)
    (pick (eqb p 9) (item_of (weights_of r.neg) i) None)))))))))

-- two lists with the same elements, in any order and with any repeats
pub record SameSet {A : Type 0} (xs ys : List A) : Type 0 where
  pub onto : (x : A) → Memᴰ x xs → Memᴰ x ys
  pub back : (x : A) → Memᴰ x ys → Memᴰ x xs

-- two sheets that differ only in the order of their rules and in how often a rule stands: "Simons' program is a set of rules". "Two
-- rules are the same when kind, heads, need, body and weights are all equal"
pub record Shuffled (sh sh' : Sheet) : Type 0 where
  pub atoms : sh.atoms ≡ sh'.atoms
  pub rules : SameSet sh.rules sh'.rules
  pub compute_in : sh.compute_in ≡ sh'.compute_in
  pub compute_out : sh.compute_out ≡ sh'.compute_out
