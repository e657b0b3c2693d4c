-- The four forcing rules, and what a closed map is.
-- "1. A rule other than choice with sure at or above its need: its head is in.
--  2. An atom is in and exactly one rule with that head has reach at or above its need: each undecided literal of that body whose
--     weight taken from reach leaves less than the need is made true.
--  3. A rule other than choice has its head out: each undecided literal whose weight added to sure meets the need is made false.
--  4. Let U be the smallest set of atoms, none of them out, that holds every head not out of any rule whose reach, with positive
--     atoms counted only if in U, meets its need. Atoms outside U are out.
-- A map is closed when none of these adds anything. An atom forced both ways is a contradiction."
-- "A repeated rule counts once .. Forcing rule 2 now counts different rules": the one rule of rule 2 may stand more than once.
use Rattle.std.specs.Prelude.{ℕ, ◌+◌, ◌≤◌, ◌<◌, ◌≡◌, Bool, true, false, not, ◌&&◌, T, leb}
use mathlib.Core.List.{List, ◌++◌, map, Memᴰ}
use Rattle.rules.specs.Sum.{has}
use Rattle.rules.specs.Rule.{Rule, Weighted, Sheet, Within, body, chooses}
use Rattle.rules.specs.Stable.{Set, value}
use Rattle.rules.specs.Map.{Map, Literal, IsMap, Holding, isnt, signed, sure, reach, ◌⊑◌}

-- has the rule this head, and can its body still hold?
abbrev pub supports : ℕ → Map → Rule → Bool
supports a M r = has a r.heads && leb r.need (reach r M)

-- every rule with this head that has reach at or above its need is this one
abbrev pub Only : List Rule → ℕ → Map → Rule → Type 0
Only P a M r = (q : Rule) → Memᴰ q P → T (supports a M q) → q ≡ r

-- a set of atoms, none of them out, that holds what rule 4's U must hold
pub record Grounds (P : List Rule) (M : Map) (C : Set) : Type 0 where
  pub none_out : (a : ℕ) → T (C a) → M a ≡ 2 → ⊥
  pub holds_heads :
      (r : Rule) → Memᴰ r P → (a : ℕ) → T (has a r.heads) → (M a ≡ 2 → ⊥)
      → r.need ≤ value r C (isnt 1 M) → T (C a)

-- the atom is in U: in every such set
abbrev pub Founded : List Rule → Map → ℕ → Type 0
Founded P M a = (C : Set) → Grounds P M C → T (C a)

pub record Closed (P : List Rule) (n : ℕ) (M : Map) : Type 0 where
  pub is_map : IsMap n M
  pub first :
      (r : Rule) → Memᴰ r P → T (not (chooses r.kind)) → r.need ≤ sure r M
      → (a : ℕ) → T (has a r.heads) → M a ≡ 1
  pub second :
      (a : ℕ) → M a ≡ 1 → (r : Rule) → Memᴰ r P → T (supports a M r) → Only P a M r
      → (s : Bool) (l : Weighted) → Memᴰ l (body r s) → M l.atom ≡ 0 → reach r M < r.need + l.weight → ⊥
  pub third :
      (r : Rule) → Memᴰ r P → T (not (chooses r.kind)) → (a : ℕ) → T (has a r.heads) → M a ≡ 2
      → (s : Bool) (l : Weighted) → Memᴰ l (body r s) → M l.atom ≡ 0 → r.need ≤ sure r M + l.weight → ⊥
  pub fourth : (a : ℕ) → Within n a → (M a ≡ 2 → ⊥) → Founded P M a

-- "the smallest closed map holding .." what is asked. What closed means is a parameter: closed under the four rules here.
pub record Least (Good Asked : Map → Type 0) (M : Map) : Type 0 where
  pub closed : Good M
  pub holding : Asked M
  pub below : (X : Map) → Good X → Asked X → M ⊑ X

-- "no consistent closed map holds them"
abbrev pub Contradiction : (Map → Type 0) → (Map → Type 0) → Type 0
Contradiction Good Asked = (X : Map) → Good X → Asked X → ⊥

-- the compute lists as literals
abbrev pub computed : Sheet → List Literal
computed sh = map (signed true) sh.compute_in ++ map (signed false) sh.compute_out

-- "the smallest consistent set that holds pins and compute lists and is closed under the four forcing rules"
abbrev pub Pinned : Sheet → List Literal → Map → Type 0
Pinned sh ps M = Holding (computed sh ++ ps) M
