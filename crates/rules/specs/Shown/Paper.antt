-- Definitions 2 to 6 of Simons, "Extending the Stable Model Semantics with More Expressive Rules", in the paper's own terms, for a
-- reader who knows the paper: the functions f_r of the four kinds of rule, closures, and the stable models.
-- A set {a1, .., an} of the paper is a list that has each element once.
use Rattle.std.specs.Prelude.{ℕ, ◌+◌, ◌↔◌, Bool, true, ◌&&◌, cond, length, T, eqb, leb}
use mathlib.Core.List.{List, [], ◌∷◌, Memᴰ}
use Rattle.rules.specs.Sum.{has}
use Rattle.rules.specs.Rule.{Rule, Weighted, basic_rule, constraint_rule, choice_rule, weight_rule}
use Rattle.rules.specs.Stable.{Set, outside}

pub data PaperRule : Type 0 where
  basic : ℕ → List ℕ → List ℕ → PaperRule
  constraint : ℕ → ℕ → List ℕ → List ℕ → PaperRule
  choice : List ℕ → List ℕ → List ℕ → PaperRule
  weight : ℕ → List Weighted → List Weighted → ℕ → PaperRule

-- a1, .., an ∈ C
unfoldable pub all : Set → List ℕ → Bool
all C [] = true
all C (a ∷ as') = C a && all C as'

-- the elements of a list that pass a test
unfoldable pub those : {A : Type 0} → (A → Bool) → List A → List A
those p [] = []
those p (x ∷ xs) = cond (p x) (x ∷ those p xs) (those p xs)

unfoldable pub sum : List Weighted → ℕ
sum [] = 0
sum (l ∷ ls) = l.weight + sum ls

-- |{a1, .., an} ∩ C|
abbrev pub size : Set → List ℕ → ℕ
size C xs = length (those C xs)

-- the sum of w_a for the a in C
abbrev pub weight_in : Set → List Weighted → ℕ
weight_in C ls = sum (those (λ l. C l.atom) ls)

-- f_r(S, C), definitions 2 to 5; what is not in S is `outside S`
unfoldable pub fᵣ : PaperRule → Set → Set → Set
fᵣ (basic h pos neg) S C x = eqb x h && (all C pos && all (outside S) neg)
fᵣ (constraint h k pos neg) S C x = eqb x h && leb k (size C pos + size (outside S) neg)
fᵣ (choice hs pos neg) S C x = (has x hs && S x) && (all C pos && all (outside S) neg)
fᵣ (weight h pos neg w) S C x = eqb x h && leb w (weight_in C pos + weight_in (outside S) neg)

-- x is in the union of the f_r(S, C)
pub record InUnion (P : List PaperRule) (S C : Set) (x : ℕ) : Type 0 where
  pub rule : PaperRule
  pub among : Memᴰ rule P
  pub given : T (fᵣ rule S C x)

-- f is a closure: f(S) is the union of the f_r(S, f(S))
abbrev pub Closure : List PaperRule → (Set → Set) → Type 0
Closure P f = (S : Set) (x : ℕ) → T (f S x) ↔ InUnion P S (f S) x

-- g_P(S), the intersection of all f(S)
abbrev pub g : List PaperRule → Set → ℕ → Type 0
g P S x = (f : Set → Set) → Closure P f → T (f S x)

-- definition 6: S is a stable model exactly when S = g_P(S)
abbrev pub PaperStable : List PaperRule → Set → Type 0
PaperStable P S = (x : ℕ) → T (S x) ↔ g P S x

-- the paper's rule as a rule of a sheet
abbrev pub as_rule : PaperRule → Rule
as_rule (basic h pos neg) = basic_rule h pos neg
as_rule (constraint h k pos neg) = constraint_rule h k pos neg
as_rule (choice hs pos neg) = choice_rule hs pos neg
as_rule (weight h pos neg w) = weight_rule h w pos neg
