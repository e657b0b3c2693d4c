-- A scan, byte by byte: what is left of it, from here on, is the whole answer. It ends at n exactly where every byte is allowed, and else
-- at the first that is not.
use Prim.Native.Nat.{ℕ, zero, suc, ◌+◌, ◌-◌, ◌≤◌, ◌<◌}
use mathlib.Core.Path.{◌≡◌, refl, ◌∙◌, ap, subst}
use mathlib.Core.Logic.{⊎_elim}
use mathlib.Core.Bool.{Bool, true, false}
use mathlib.Core.List.{List}
use native.Mathlib.Omega.{arith}
use native.Mathlib.Nat.{eq-or-lt_of_le}
use lib.ListN.{get_or}
use lib.Dec.{T}
use Rattle.rules.specs.Sum.{pick}
use Rattle.rules.proofs.Tests.{T_true, true_T}
use Rattle.numbers.proofs.Answer.{one_left}
use Rattle.gate.specs.Scan.{fault_from, first_fault}

module _ (allowed : ℕ → Bool) (m : List ℕ) where
  -- one turn of the loop
  module _ (n i : ℕ) (h : i < n) where
    opened : fault_from allowed (n - i) i m ≡ pick (allowed (get_or m i 0)) (fault_from allowed (n - (i + 1)) (i + 1) m) i
    unfolding fault_from
    opened = ap (λ (k : ℕ). fault_from allowed k i m) (one_left n i h)

    pub scan_on : allowed (get_or m i 0) ≡ true → fault_from allowed (n - i) i m ≡ fault_from allowed (n - (i + 1)) (i + 1) m
    unfolding pick
    scan_on e = opened ∙ ap (λ (b : Bool). pick b (fault_from allowed (n - (i + 1)) (i + 1) m) i) e

    pub scan_here : allowed (get_or m i 0) ≡ false → fault_from allowed (n - i) i m ≡ i
    unfolding pick
    scan_here e = opened ∙ ap (λ (b : Bool). pick b (fault_from allowed (n - (i + 1)) (i + 1) m) i) e

  pub scan_over : (n i : ℕ) → n ≤ i → fault_from allowed (n - i) i m ≡ i
  unfolding fault_from
  scan_over n i h = let e : n - i ≡ 0 = omega arith in ap (λ (k : ℕ). fault_from allowed k i m) e

  -- what a scan of so many bytes finds: the index after them, where every byte is allowed
  fault_from_law : (left i : ℕ) → ((k : ℕ) → i ≤ k → k < i + left → T (allowed (get_or m k 0))) → fault_from allowed left i m ≡ i + left
  unfolding fault_from pick
  fault_from_law zero i all = omega arith
  fault_from_law (suc left) i all =
      ap (λ (b : Bool). pick b (fault_from allowed left (i + 1) m) i) (T_true (allowed (get_or m i 0)) (all i (omega arith) (omega arith)))
      ∙ fault_from_law left (i + 1) (λ k l h. all k (omega arith) (omega arith))
      ∙ omega arith

  from_fault :
      (left i : ℕ) → fault_from allowed left i m ≡ i + left → (k : ℕ) → i ≤ k → k < i + left → T (allowed (get_or m k 0))
  unfolding fault_from pick
  from_fault zero i e k l h = absurd (omega (arith, l, h))
  from_fault (suc left) i e k l h = by (allowed (get_or m i 0)) refl e (from_fault left (i + 1))
    where
      by :
          (b : Bool) → allowed (get_or m i 0) ≡ b → pick b (fault_from allowed left (i + 1) m) i ≡ i + suc left
          → (fault_from allowed left (i + 1) m ≡ i + 1 + left → (k : ℕ) → i + 1 ≤ k → k < i + 1 + left → T (allowed (get_or m k 0)))
          → T (allowed (get_or m k 0))
      by true a q rest =
          ⊎_elim
          (λ (z : i ≡ k). subst (λ (j : ℕ). T (allowed (get_or m j 0))) z (true_T a))
          (λ (z : i < k). rest (omega (arith, q)) k (omega (arith, z)) (omega (arith, h)))
          (eq-or-lt_of_le l)
      by false a q rest = absurd (omega (arith, q))

  -- of n bytes
  pub all_allowed : (n : ℕ) → ((k : ℕ) → k < n → T (allowed (get_or m k 0))) → first_fault allowed n m ≡ n
  unfolding first_fault
  all_allowed n all = fault_from_law n 0 (λ k l h. all k (omega (arith, h))) ∙ omega arith

  pub allowed_all : (n : ℕ) → first_fault allowed n m ≡ n → (k : ℕ) → k < n → T (allowed (get_or m k 0))
  unfolding first_fault
  allowed_all n e k h = from_fault n 0 (omega (arith, e)) k (omega arith) (omega (arith, h))

  pub fault_most : (n : ℕ) → first_fault allowed n m ≤ n
  unfolding first_fault fault_from pick
  fault_most n = omega (arith, most n 0)
    where
      most : (left i : ℕ) → fault_from allowed left i m ≤ i + left
      most zero i = omega arith
      most (suc left) i = by (allowed (get_or m i 0)) (most left (i + 1))
        where
          by : (b : Bool) → fault_from allowed left (i + 1) m ≤ i + 1 + left → pick b (fault_from allowed left (i + 1) m) i ≤ i + suc left
          by true h = omega (arith, h)
          by false h = omega arith
