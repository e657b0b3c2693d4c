-- "each undecided literal of that body whose weight .. is made true", "each undecided literal whose weight .. is made false":
-- both forcing rules that decide a body's literals press those of at least some weight to one truth.
use Rattle.std.specs.Prelude.{ℕ, ◌≤◌, ◌<◌, ◌≡◌, Bool, true, false, not}
use mathlib.Core.List.{List, Memᴰ}
use Rattle.rules.specs.Rule.{Rule, Weighted, body}
use Rattle.rules.specs.Map.{Map, side, want}
use Rattle.rules.specs.Forcing.{Closed}
use Rattle.rules.specs.Inner.Bytes.{MapBytes}
use Rattle.table.specs.Inner.Words.{pair_atom, pair_weight, Pair, Seg}
use Rattle.table.specs.Inner.Rows.{row_rule}
use Rattle.weigh.specs.Inner.Step.{Concludes, Decided, Kept, Outcome, Step, Till}

-- pair j, if it weighs enough, is not undecided
abbrev pub PairPressed : List ℕ → ℕ → ℕ → Map → Type 0
PairPressed c least j M = least ≤ pair_weight c j → M (pair_atom c j) ≡ 0 → ⊥

-- pair j, if it weighs enough and is undecided, has to be on a side
abbrev pub PairDue : List Rule → List ℕ → ℕ → ℕ → ℕ → ℕ → Map → Type 0
PairDue P c n least v j M = least ≤ pair_weight c j → M (pair_atom c j) ≡ 0 → Concludes (Closed P n) M (pair_atom c j) v

-- what is asked and promised where pair j is pressed, and where a run of pairs is
pub record PairAsks (c : List ℕ) (n j v : ℕ) (m : List ℕ) : Type 0 where
  pub pair : Pair c n j
  pub proper : MapBytes n m
  pub decided : Decided v

pub record RunAsks (c : List ℕ) (n from to v : ℕ) (m : List ℕ) : Type 0 where
  pub seg : Seg c n from to
  pub proper : MapBytes n m
  pub decided : Decided v

pub record PressesPair (c : List ℕ) (n j least v : ℕ) (m m' : List ℕ) (r : Outcome) : Type 0 where
  pub kept : Kept n m m'
  pub step : (P : List Rule) → PairDue P c n least v j (side n m) → Step (Closed P n) n (PairPressed c least j) m m' r

-- the pairs of a run up to before one of its places are pressed
pub record Presses (c : List ℕ) (n from to least v : ℕ) (m : List ℕ) (j : ℕ) (m' : List ℕ) (r : Outcome) : Type 0 where
  pub kept : Kept n m m'
  pub step :
      (P : List Rule) → ((k : ℕ) → from ≤ k → k < to → PairDue P c n least v k (side n m))
      → Step (Closed P n) n (Till (PairPressed c least) from j) m m' r

-- the side of an atom on which its literal of a sign has a truth
abbrev pub aim : Bool → Bool → ℕ
aim truth true = want truth
aim truth false = want (not truth)

-- no literal of the body that weighs enough is undecided
abbrev pub Pressed : Rule → ℕ → Map → Type 0
Pressed r least M = (s : Bool) (l : Weighted) → Memᴰ l (body r s) → least ≤ l.weight → M l.atom ≡ 0 → ⊥

-- each that is has to have a truth
abbrev pub Due : List Rule → ℕ → Rule → ℕ → Bool → Map → Type 0
Due P n r least truth M =
    (s : Bool) (l : Weighted) → Memᴰ l (body r s) → least ≤ l.weight → M l.atom ≡ 0
    → Concludes (Closed P n) M l.atom (aim truth s)

pub record PressesBody (c : List ℕ) (n i least : ℕ) (truth : Bool) (m m' : List ℕ) (r : Outcome) : Type 0 where
  pub kept : Kept n m m'
  pub step :
      (P : List Rule) → Due P n (row_rule c i) least truth (side n m)
      → Step (Closed P n) n (Pressed (row_rule c i) least) m m' r
