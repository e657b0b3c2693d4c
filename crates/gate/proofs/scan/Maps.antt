-- What the scans find on a map: no fault and no contradiction is a map of 0s, 1s and 2s; n bytes of 3, where n is at least 1, are a
-- contradiction; and the scans look at n bytes only.
use Prim.Native.Nat.{ℕ, zero, suc, ◌+◌, ◌≤◌, ◌<◌}
use mathlib.Core.Path.{◌≡◌, refl, sym, ◌∙◌, ap, ap₂, subst}
use mathlib.Core.Bool.{Bool, true, false, ◌&&◌}
use mathlib.Core.List.{List}
use mathlib.Core.Logic.{⊎_elim}
use native.Mathlib.Omega.{arith}
use native.Mathlib.Nat.{eq-or-lt_of_le}
use lib.ListN.{get_or}
use lib.Dec.{T, leb, eqb, ltb, leb→le, le→leb, lt→ltb, ltb→lt}
use borrow.Author.Tests.{lt-ltb, eq-eqb, ne_eqb, ltb-true}
use Rattle.rules.specs.Sum.{pick}
use Rattle.rules.specs.Map.{Whole}
use Rattle.rules.specs.Inner.Bytes.{Room, MapBytes}
use Rattle.rules.proofs.Inside.{inside_within}
use Rattle.rules.proofs.Tests.{T_eq, eq_T, true_T, T_true, T_false, and_T, T_and_left, T_and_right}
use Rattle.gate.specs.Scan.{between, fault_from, first_fault, map_fault, model_fault, is_contradiction}
use Rattle.gate.proofs.scan.Laws.{all_allowed, allowed_all, fault_most}

-- of no bytes
pub fewest : (n : ℕ) (m : List ℕ) → n ≡ 0 → n ≡ map_fault n m
unfolding map_fault first_fault fault_from pick
fewest n m e = subst (λ (k : ℕ). k ≡ map_fault k m) (sym e) (by (eqb (get_or m 0 0) 3))
  where
    by : (b : Bool) → ◌≡◌ {A = ℕ} 0 (pick b 0 0)
    by true = refl
    by false = refl

module _ (n : ℕ) (m : List ℕ) where
  -- a scan that finds no fault has found every byte allowed
  fine : (low high : ℕ) → n ≤ first_fault (between low high) n m → (i : ℕ) → i < n → T (between low high (get_or m i 0))
  fine low high h =
      allowed_all (between low high) m n (omega (arith, h, fault_most (between low high) m n))

  pub model_fine : n ≤ model_fault n m → Whole n m
  unfolding model_fault
  model_fine h i l = inside_within 2 (get_or m i 0) (fine 1 2 h i l)

  pub contradiction_bytes : is_contradiction n m ≡ true → (0 < n) × ((i : ℕ) → i < n → get_or m i 0 ≡ 3)
  unfolding is_contradiction
  contradiction_bytes e =
      let t = true_T e in (
        ltb-true 0 n (T_true (ltb 0 n) (T_and_left (ltb 0 n) (eqb (first_fault (between 3 3) n m) n) t)),
        λ i h.
            let
            k = allowed_all (between 3 3) m n (T_eq (T_and_right (ltb 0 n) (eqb (first_fault (between 3 3) n m) n) t)) i h
            in
            let low = leb→le 3 (get_or m i 0) (T_and_left (leb 3 (get_or m i 0)) (leb (get_or m i 0) 3) k) in
            let high = leb→le (get_or m i 0) 3 (T_and_right (leb 3 (get_or m i 0)) (leb (get_or m i 0) 3) k) in
            omega (arith, low, high),
      )

  threes_fine : ((i : ℕ) → i < n → get_or m i 0 ≡ 3) → first_fault (between 3 3) n m ≡ n
  threes_fine all =
      all_allowed (between 3 3) m n (λ i h. subst (λ (b : ℕ). T (between 3 3 b)) (sym (all i h)) tt)

  pub threes_contradict : 0 < n → ((i : ℕ) → i < n → get_or m i 0 ≡ 3) → is_contradiction n m ≡ true
  unfolding is_contradiction
  threes_contradict some all = simp (lt-ltb 0 n some, eq-eqb (first_fault (between 3 3) n m) n (threes_fine all))

  pub threes_map : 0 < n → ((i : ℕ) → i < n → get_or m i 0 ≡ 3) → map_fault n m ≡ n
  unfolding map_fault pick
  threes_map some all = simp (eq-eqb (get_or m 0 0) 3 (all 0 some), threes_fine all)

  map_small : ((i : ℕ) → i < n → get_or m i 0 ≤ 2) → 0 < n → map_fault n m ≡ n
  unfolding map_fault pick
  map_small small some =
      simp (
        ne_eqb (get_or m 0 0) 3 (λ e. omega (arith, small 0 some, e)),
        all_allowed (between 0 2) m n (λ i h. and_T (leb 0 (get_or m i 0)) (leb (get_or m i 0) 2) (le→leb 0 (get_or m i 0) (omega arith)) (le→leb (get_or m i 0) 2 (small i h))),
      )

  -- no fault and no contradiction
  pub map_fine : Room n m → n ≤ map_fault n m → is_contradiction n m ≡ false → MapBytes n m
  unfolding map_fault is_contradiction pick
  map_fine room h c = record { room = room; sides = by (eqb (get_or m 0 0) 3) refl h }
    where
      by :
          (b : Bool) → eqb (get_or m 0 0) 3 ≡ b → n ≤ pick b (first_fault (between 3 3) n m) (first_fault (between 0 2) n m)
          → (i : ℕ) → i < n → get_or m i 0 ≤ 2
      by true e k i l =
          let f : first_fault (between 3 3) n m ≡ n = omega (arith, k, fault_most (between 3 3) m n) in
          absurd
          (subst T c (and_T (ltb 0 n) (eqb (first_fault (between 3 3) n m) n) (lt→ltb 0 n (omega (arith, l))) (eq_T f)))
      by false e k i l = leb→le (get_or m i 0) 2 (T_and_right (leb 0 (get_or m i 0)) (leb (get_or m i 0) 2) (fine 0 2 k i l))

  pub map_none : ((i : ℕ) → i < n → get_or m i 0 ≤ 2) → map_fault n m ≡ n
  map_none small = ⊎_elim none some (eq-or-lt_of_le (omega arith))
    where
      none : 0 ≡ n → map_fault n m ≡ n
      none e = sym (fewest n m (sym e))

      some : 0 < n → map_fault n m ≡ n
      some h = map_small small h

  pub map_stands : ((i : ℕ) → i < n → get_or m i 0 ≤ 2) → is_contradiction n m ≡ false
  unfolding is_contradiction
  map_stands small = T_false (ltb 0 n && eqb (first_fault (between 3 3) n m) n) (λ t. no t)
    where
      no : T (ltb 0 n && eqb (first_fault (between 3 3) n m) n) → ⊥
      no t =
          let some = ltb→lt 0 n (T_and_left (ltb 0 n) (eqb (first_fault (between 3 3) n m) n) t) in
          let k = allowed_all (between 3 3) m n (T_eq (T_and_right (ltb 0 n) (eqb (first_fault (between 3 3) n m) n) t)) 0 some in
          omega (arith, small 0 some, leb→le 3 (get_or m 0 0) (T_and_left (leb 3 (get_or m 0 0)) (leb (get_or m 0 0) 3) k))

-- two maps that agree on their first n bytes
module _ (n : ℕ) (m m' : List ℕ) (same : (i : ℕ) → i < n → get_or m i 0 ≡ get_or m' i 0) where
  first_same : (allowed : ℕ → Bool) → first_fault allowed n m ≡ first_fault allowed n m'
  unfolding first_fault fault_from
  first_same allowed = from n 0 (λ k l h. same k (omega (arith, h)))
    where
      from :
          (left i : ℕ) → ((k : ℕ) → i ≤ k → k < i + left → get_or m k 0 ≡ get_or m' k 0) → fault_from allowed left i m ≡ fault_from allowed left i m'
      from zero i e = refl
      from (suc left) i e =
          ap₂
          (λ (b : ℕ) (x : ℕ). pick (allowed b) x i)
          (e i (omega arith) (omega arith))
          (from left (i + 1) (λ k l h. e k (omega (arith, l)) (omega (arith, h))))

  pub model_same : model_fault n m ≡ model_fault n m'
  unfolding model_fault
  model_same = first_same (between 1 2)

  pub is_contradiction_same : is_contradiction n m ≡ is_contradiction n m'
  unfolding is_contradiction
  is_contradiction_same = ap (λ (x : ℕ). ltb 0 n && eqb x n) (first_same (between 3 3))

  some_same : 0 < n → map_fault n m ≡ map_fault n m'
  unfolding map_fault
  some_same h =
      ap (λ (b : ℕ). pick (eqb b 3) (first_fault (between 3 3) n m) (first_fault (between 0 2) n m)) (same 0 h)
      ∙ ap₂ (λ (x y : ℕ). pick (eqb (get_or m' 0 0) 3) x y) (first_same (between 3 3)) (first_same (between 0 2))

  pub map_same : map_fault n m ≡ map_fault n m'
  map_same =
      ⊎_elim
      (λ (e : 0 ≡ n). sym (fewest n m (sym e)) ∙ fewest n m' (sym e))
      some_same
      (eq-or-lt_of_le (omega arith))
