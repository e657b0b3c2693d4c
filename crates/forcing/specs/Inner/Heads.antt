-- "1. A rule other than choice with sure at or above its need: its head is in."
-- "3. A rule other than choice has its head out: each undecided literal whose weight added to sure meets the need is made false."
-- Both forcing rules at one rule of the table.
use Rattle.std.specs.Prelude.{ℕ, ◌+◌, ◌≤◌, ◌≡◌, Bool, not, T}
use mathlib.Core.List.{List, Memᴰ}
use Rattle.rules.specs.Sum.{has}
use Rattle.rules.specs.Rule.{Rule, Weighted, body, chooses}
use Rattle.rules.specs.Map.{Map, side, sure}
use Rattle.rules.specs.Forcing.{Closed}
use Rattle.rules.specs.Inner.Bytes.{MapBytes}
use Rattle.table.specs.Inner.Words.{pair_atom}
use Rattle.table.specs.Inner.Rows.{heads_at, kind_at, row_rule, table_rules}
use Rattle.weigh.specs.Inner.Step.{Kept, Outcome, Step, Till}

-- the two forcing rules have nothing to add for this rule
pub record Settled (r : Rule) (M : Map) : Type 0 where
  pub first : T (not (chooses r.kind)) → r.need ≤ sure r M → (a : ℕ) → T (has a r.heads) → M a ≡ 1
  pub third :
      T (not (chooses r.kind)) → (a : ℕ) → T (has a r.heads) → M a ≡ 2 → (s : Bool) (l : Weighted)
      → Memᴰ l (body r s) → M l.atom ≡ 0 → r.need ≤ sure r M + l.weight → ⊥

pub record Settles (c : List ℕ) (n i : ℕ) (m m' : List ℕ) (r : Outcome) : Type 0 where
  pub kept : Kept n m m'
  pub step : (P : List Rule) → Memᴰ (row_rule c i) P → Step (Closed P n) n (Settled (row_rule c i)) m m' r

-- rule i is no choice rule, and x is the side of its one head
pub record HeadAsks (c : List ℕ) (n i head x : ℕ) (m : List ℕ) : Type 0 where
  pub proper : MapBytes n m
  pub gives : T (not (chooses (kind_at c i)))
  pub its : head ≡ pair_atom c (heads_at c i)
  pub stands : x ≡ side n m head

-- both forcing rules at every rule
abbrev pub SettlesAll : List ℕ → ℕ → ℕ → List ℕ → List ℕ → Outcome → Type 0
SettlesAll c n count m m' r = Step (Closed (table_rules c count) n) n (Till (λ k. Settled (row_rule c k)) 0 count) m m' r
