-- The coding loses nothing: a top below 2^24 and a value below 2^40 are read back from their code, and so are a sheet's counts
-- and a margin from their values.
use Prim.Native.Nat.{ℕ, suc, ◌+◌, ◌/◌, ◌%◌, ◌<◌, ◌^◌}
use mathlib.Core.Path.{◌≡◌}
use native.Mathlib.Omega.{arith}
use lib.IntN.{pos, negsuc}
use Rattle.archive.specs.Code.{coded, counts, raised}

pub record ReadBack (base top value whole : ℕ) : Type 0 where
  pub top' : whole / base ≡ top
  pub value' : whole % base ≡ value

pub code_read : (top value : ℕ) → top < 2 ^ 24 → value < 2 ^ 40 → ReadBack (2 ^ 40) top value (coded top value)
unfolding coded
code_read top value ht hv = record { top' = omega arith; value' = omega arith }

pub counts_read : (n rules : ℕ) → n < 2 ^ 16 → rules < 2 ^ 16 → ReadBack (2 ^ 16) n rules (counts n rules)
unfolding counts
counts_read n rules hn hr = record { top' = omega arith; value' = omega arith }

-- a margin of k is 2^32 + k, and one of -(k + 1) is k + 1 less than 2^32
pub raised_up : (k : ℕ) → raised (pos k) ≡ 2 ^ 32 + k
unfolding raised
raised_up k = omega arith

pub raised_down : (k : ℕ) → k < 2 ^ 32 → raised (negsuc k) + suc k ≡ 2 ^ 32
unfolding raised
raised_down k h = omega arith
