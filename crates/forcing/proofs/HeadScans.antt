-- A scan of a rule's heads, one pair after another: what holds of each head before the present one holds of all at the end.
use Prim.Native.Nat.{ℕ, ◌≤◌, ◌<◌}
use mathlib.Core.Path.{sym, subst}
use mathlib.Core.List.{List}
use native.Mathlib.Omega.{arith}
use lib.Dec.{T}
use Rattle.rules.specs.Sum.{has}
use Rattle.table.specs.Inner.Words.{pair_atom}
use Rattle.table.specs.Inner.Rows.{heads_at, positives_at, row_rule}
use Rattle.table.proofs.Words.{AtomFound, atoms_listed}

module _ (c : List ℕ) (i : ℕ) (Fine : ℕ → Type 0) where
  -- every head before pair j is fine
  abbrev pub Sofar : ℕ → Type 0
  Sofar j = (k : ℕ) → heads_at c i ≤ k → k < j → Fine (pair_atom c k)

  pub scan_end : (j : ℕ) → positives_at c i ≤ j → Sofar j → (a : ℕ) → T (has a (row_rule c i).heads) → Fine a
  scan_end j b all a t =
      let f : AtomFound c (heads_at c i) (positives_at c i) a = atoms_listed c (heads_at c i) (positives_at c i) a t in
      subst Fine (sym f.same) (all f.at f.among.low (omega (arith, f.among.high)))
