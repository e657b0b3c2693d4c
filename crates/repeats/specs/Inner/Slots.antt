-- "A repeated rule counts once": the rows of a table are filled one after another, and a row whose rule an earlier row has is found. Each
-- row that is kept is entered in the slot of its rule's mark; the rows of one slot are linked, the last one first. A slot and a link hold
-- the number of a row, 1 for the first, or 0.
use Rattle.std.specs.Prelude.{◌≡◌, ℕ, ◌+◌, ◌%◌, ◌<◌, ◌≤◌, List, length, replicate, ◌≢◌, slice_index, slice_set, Option, Some, None}
use Rattle.rules.specs.Limits.{rules_most}
use Rattle.table.specs.Inner.Rows.{row_rule}
use Rattle.repeats.specs.Inner.Same.{Filled}
use Rattle.repeats.specs.Inner.Marks.{slot_count, rule_mark}
use Rattle.repeats.specs.declared.slots.Kept.{Kept}

-- row p is met on the way from the row of number q, link by link
pub data Reaches (links : List ℕ) (p : ℕ) : ℕ → Type 0 where
  here : (q : ℕ) → q ≡ p + 1 → Reaches links p q
  onward : (q j : ℕ) → q ≡ j + 1 → Reaches links p (slice_index links j) → Reaches links p q

-- row p is met from the slot of its rule's mark
abbrev pub Entered : List ℕ → Kept → ℕ → Type 0
Entered c kept p = Reaches kept.links p (slice_index kept.slots (rule_mark (row_rule c p) % slot_count))

-- the first k rows are entered, and every link leads down
pub record Indexed (c : List ℕ) (kept : Kept) (k : ℕ) : Type 0 where
  pub slots_long : length kept.slots ≡ slot_count
  pub links_long : length kept.links ≡ rules_most
  pub top : (x : ℕ) → slice_index kept.slots x ≤ k
  pub down : (p : ℕ) → p < k → slice_index kept.links p ≤ p
  pub entered : (p : ℕ) → p < k → Entered c kept p

-- at first no row is
unfoldable pub nothing_kept : Kept
nothing_kept = record { slots = replicate slot_count 0; links = replicate rules_most 0 }

pub record FindAsks (c : List ℕ) (kept : Kept) (k from : ℕ) : Type 0 where
  pub filled : (p : ℕ) → p ≤ k → Filled c p
  pub low : from ≤ k
  pub few : k < rules_most
  pub down : (p : ℕ) → p < k → slice_index kept.links p ≤ p

-- a row before k that has its rule; or none has that is met from the row of this number on
abbrev pub Finds : List ℕ → Kept → ℕ → ℕ → Option ℕ → Type 0
Finds c kept k from (Some r) = (r < k) × (row_rule c r ≡ row_rule c k)
Finds c kept k from None = (p : ℕ) → p < k → Reaches kept.links p from → row_rule c p ≢ row_rule c k

pub record EnterAsks (slot k : ℕ) : Type 0 where
  pub there : slot < slot_count
  pub few : k < rules_most

-- row k is entered in a slot, and linked to the row that was there
abbrev pub entered_in : Kept → ℕ → ℕ → Kept
entered_in kept slot k =
    record { slots = slice_set kept.slots slot (k + 1); links = slice_set kept.links k (slice_index kept.slots slot) }

pub record KeepAsks (c : List ℕ) (kept : Kept) (k mark : ℕ) : Type 0 where
  pub mark_is : mark ≡ rule_mark (row_rule c k)
  pub filled : (p : ℕ) → p ≤ k → Filled c p
  pub few : k < rules_most
  pub index : Indexed c kept k

-- no row before k has its rule, and it is entered
pub record New (c : List ℕ) (k : ℕ) (kept : Kept) : Type 0 where
  pub apart : (p : ℕ) → p < k → row_rule c p ≢ row_rule c k
  pub index : Indexed c kept (k + 1)

-- a row before k has its rule, and nothing is entered; or none has, and the answer is k
pub record KeptOnce (c : List ℕ) (k : ℕ) (kept kept' : Kept) (r : ℕ) : Type 0 where
  pub low : r ≤ k
  pub repeat : r < k → (row_rule c r ≡ row_rule c k) × (kept' ≡ kept)
  pub new : r ≡ k → New c k kept'
