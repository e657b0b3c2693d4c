-- "2. An atom is in and exactly one rule with that head has reach at or above its need: each undecided literal of that body whose
-- weight taken from reach leaves less than the need is made true." A table holds each rule once, so its rows are counted, as far as
-- two: for all atoms that are in at once, by atom.
use Rattle.std.specs.Prelude.{ℕ, zero, suc, ◌+◌, ◌≤◌, ◌<◌, ◌≡◌, Bool, T}
use mathlib.Core.List.{List, Memᴰ}
use Rattle.rules.specs.Sum.{counted, tally, has}
use Rattle.rules.specs.Rule.{Rule, Weighted, Within, body}
use Rattle.rules.specs.Map.{Map, side, is, reach, ◌⊑◌}
use Rattle.rules.specs.Forcing.{Closed, supports}
use Rattle.table.specs.Inner.Rows.{row_rule, table_rules}
use Rattle.weigh.specs.Inner.Step.{Kept, Outcome, Step, Till}

-- how many rules with this head have reach at or above their need
abbrev pub supporters : ℕ → Map → List Rule → ℕ
supporters a M P = tally (supports a M) (λ _. 1) P

-- a number as far as it tells none, one and more apart
unfoldable pub up_to_two : ℕ → ℕ
up_to_two zero = 0
up_to_two (suc zero) = 1
up_to_two (suc (suc k)) = 2

-- for each atom that is in, whether no rule, one, or more can still give it, and for any other 0; an atom's count stands where its byte
-- stands in a map
abbrev pub Counts : List Rule → ℕ → Map → List ℕ → Type 0
Counts P n M counts = (a : ℕ) → Within n a → up_to_two (side n counts a) ≡ up_to_two (counted (is 1 M a) (supporters a M P))

-- one more at each atom that passes a test
pub record Adds (n : ℕ) (test : ℕ → Bool) (counts counts' : List ℕ) : Type 0 where
  pub adds : (a : ℕ) → Within n a → up_to_two (side n counts' a) ≡ up_to_two (side n counts a + counted (test a) 1)

-- the atom is in, and its count is one from a least one up to 1
pub record Scarce (n : ℕ) (M : Map) (counts : List ℕ) (least a : ℕ) : Type 0 where
  pub holds : M a ≡ 1
  pub low : least ≤ side n counts a
  pub few : side n counts a ≤ 1

-- a head of rule i is so
pub record ScarceHead (c : List ℕ) (n i : ℕ) (M : Map) (counts : List ℕ) (least : ℕ) : Type 0 where
  pub atom : ℕ
  pub head : T (has atom (row_rule c i).heads)
  pub scarce : Scarce n M counts least atom

-- the forcing rule has nothing to add for this rule
abbrev pub Backed : List Rule → Rule → Map → Type 0
Backed P r M =
    (a : ℕ) → M a ≡ 1 → supporters a M P ≡ 1 → T (supports a M r) → (s : Bool) (l : Weighted) → Memᴰ l (body r s)
    → M l.atom ≡ 0 → reach r M < r.need + l.weight → ⊥

-- the counts may be those of an older map: nothing is lost where they are those of the present one
pub record Backs (c : List ℕ) (n i : ℕ) (counts m m' : List ℕ) (r : Outcome) : Type 0 where
  pub kept : Kept n m m'
  pub step :
      (P : List Rule) → Memᴰ (row_rule c i) P → (M₀ : Map) → M₀ ⊑ side n m → Counts P n M₀ counts
      → Step (Closed P n) n (λ M. Counts P n M counts → Backed P (row_rule c i) M) m m' r

abbrev pub BacksAll : List ℕ → ℕ → ℕ → List ℕ → ℕ → List ℕ → List ℕ → Outcome → Type 0
BacksAll c n count counts i m m' r =
    Step (Closed (table_rules c count) n) n
    (Till (λ k M. Counts (table_rules c count) n M counts → Backed (table_rules c count) (row_rule c k) M) 0 i) m m' r
