-- "For a candidate set S and a set C, a body holds when the weights of positive atoms in C plus the weights of negated atoms
-- not in S reach the need. A rule whose body holds gives its head; a choice rule gives only those heads that are in S.
-- S is stable exactly when it equals the smallest C that contains everything the rules give from it."
use Rattle.std.specs.Prelude.{ℕ, ◌+◌, ◌≤◌, ◌<◌, ◌≡◌, Bool, true, not, T}
use mathlib.Core.List.{List, Memᴰ}
use Rattle.rules.specs.Sum.{tally, has}
use Rattle.rules.specs.Rule.{Rule, Weighted, Sheet, chooses}

abbrev pub Set : Type 0
Set = ℕ → Bool

-- the atoms not in a set
abbrev pub outside : Set → Set
outside S a = not (S a)

-- the weights of those literals of a list whose atoms pass a test
abbrev pub gain : Set → List Weighted → ℕ
gain p ls = tally (λ l. p l.atom) (λ l. l.weight) ls

-- the weight of a body of which the positive atoms that pass p and the negated atoms that pass q count
unfoldable pub value : Rule → Set → Set → ℕ
value r p q = gain p r.pos + gain q r.neg

abbrev pub everything : Set
everything a = true

-- "the sum of its own weights": every literal counts
abbrev pub weight_sum : Rule → ℕ
weight_sum r = value r everything everything

-- a need above that sum, and one that is not
abbrev pub Dead : Rule → Type 0
Dead r = weight_sum r < r.need

abbrev pub Living : Rule → Type 0
Living r = r.need ≤ weight_sum r

abbrev pub Holds : Rule → Set → Set → Type 0
Holds r S C = r.need ≤ value r C (outside S)

pub record Gives (r : Rule) (S C : Set) (a : ℕ) : Type 0 where
  pub head : T (has a r.heads)
  pub holds : Holds r S C
  pub chosen : T (chooses r.kind) → T (S a)

-- C contains everything that the rules give from it
abbrev pub Contains : List Rule → Set → Set → Type 0
Contains P S C = (r : Rule) → Memᴰ r P → (a : ℕ) → Gives r S C a → T (C a)

abbrev pub Below : Set → Set → Type 0
Below S C = (a : ℕ) → T (S a) → T (C a)

pub record Stable (P : List Rule) (S : Set) : Type 0 where
  pub contains : Contains P S S
  pub smallest : (C : Set) → Contains P S C → Below S C

-- "S agrees with the sheet when it holds all compute-in atoms and no compute-out atom."
pub record Agrees (sh : Sheet) (S : Set) : Type 0 where
  pub holds_in : (a : ℕ) → T (has a sh.compute_in) → T (S a)
  pub holds_out : (a : ℕ) → T (has a sh.compute_out) → T (outside S a)

pub record Model (sh : Sheet) (S : Set) : Type 0 where
  pub stable : Stable sh.rules S
  pub agrees : Agrees sh S

-- "compare two sets at the lowest atom where they differ; the one that has it comes first"
pub record Before (S S' : Set) : Type 0 where
  pub at : ℕ
  pub here : T (S at)
  pub there : T (outside S' at)
  pub same : (a : ℕ) → a < at → S a ≡ S' a

-- the first of the sets that satisfy Q: it does, and none that does comes before it
pub record FirstOf (Q : Set → Type 0) (S : Set) : Type 0 where
  pub is : Q S
  pub first : (S' : Set) → Q S' → Before S' S → ⊥

abbrev pub First : Sheet → Set → Type 0
First sh = FirstOf (Model sh)

abbrev pub NoModel : Sheet → Type 0
NoModel sh = (S : Set) → Model sh S → ⊥
