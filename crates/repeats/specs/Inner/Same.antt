-- "Two rules are the same when kind, heads, need, body and weights are all equal": the rules of two rows of a table, told by their words.
use Rattle.std.specs.Prelude.{◌≡◌, ℕ, ◌+◌, ◌-◌, ◌<◌, ◌≤◌, List}
use Rattle.rules.specs.Limits.{number_most}
use Rattle.table.specs.Inner.Words.{pair_at, pair_weight}
use Rattle.table.specs.Inner.Rows.{heads_at, positives_at, negatives_at, end_at}

-- the pairs from one place to before another are those from a third place on
abbrev pub SameRuns : List ℕ → ℕ → ℕ → ℕ → Type 0
SameRuns c from to other = (x : ℕ) → x < to - from → pair_at c (from + x) ≡ pair_at c (other + x)

-- row i is filled: it has a head, its places are in order, and its heads weigh 1
pub record Filled (c : List ℕ) (i : ℕ) : Type 0 where
  pub headed : heads_at c i < positives_at c i
  pub order : (positives_at c i ≤ negatives_at c i) × (negatives_at c i ≤ end_at c i)
  pub far : end_at c i ≤ number_most
  pub ones : (j : ℕ) → heads_at c i ≤ j → j < positives_at c i → pair_weight c j ≡ 1
