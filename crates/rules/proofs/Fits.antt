-- What a sheet that was read has, and the laws of its meaning ask for: every atom that it names is one of its n.
use Prim.Native.Nat.{ℕ}
use mathlib.Core.Bool.{Bool}
use mathlib.Core.List.{List, Memᴰ}
use lib.Dec.{T}
use Rattle.rules.specs.Sum.{has}
use Rattle.rules.specs.Rule.{Rule, Weighted, Sheet, Within, body}

-- every atom of every rule is one of the n
pub record Fits (n : ℕ) (P : List Rule) : Type 0 where
  pub head : (r : Rule) → Memᴰ r P → (a : ℕ) → T (has a r.heads) → Within n a
  pub literal : (r : Rule) → Memᴰ r P → (s : Bool) (l : Weighted) → Memᴰ l (body r s) → Within n l.atom

-- every atom that the sheet names is one of its n
pub record Numbered (sh : Sheet) : Type 0 where
  pub rules : Fits sh.atoms sh.rules
  pub compute_in : (a : ℕ) → T (has a sh.compute_in) → Within sh.atoms a
  pub compute_out : (a : ℕ) → T (has a sh.compute_out) → Within sh.atoms a
