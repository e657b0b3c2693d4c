-- A map's bytes after one of them is set are a map still, and an undecided atom less is left. (How the map has changed is in crate
-- rules: proofs/Bytes.antt.)
use Prim.Native.Nat.{ℕ, zero, suc, ◌-◌, ◌≤◌, ◌<◌}
use mathlib.Core.Path.{◌≡◌, sym, ◌∙◌, ap, subst}
use mathlib.Core.Bool.{Bool}
use mathlib.Core.Logic.{◌⊎◌, inl, inr, ⊎_elim}
use mathlib.Core.List.{List, [], ◌∷◌}
use native.Mathlib.Omega.{arith}
use lib.Dec.{eqb}
use lib.ListN.{length, get_or, take, set, length-set, replicate, length-replicate, get_or-replicate}
use lib.Seq.{get_or-set_same, get_or-set_other}
use borrow.Author.Tests.{eq-eqb, ne_eqb}
use Rattle.rules.specs.Sum.{counted, tally}
use Rattle.rules.specs.Rule.{Within}
use Rattle.rules.specs.Map.{IsMap, side, undecided}
use Rattle.rules.specs.Inner.Bytes.{MapBytes}
use Rattle.rules.proofs.Tests.{decided, T_eq, T_ne}
use Rattle.rules.proofs.Inside.{within?}
use Rattle.rules.proofs.Bytes.{side_at, side_beyond, side_map}

-- two numbers are equal, or they differ
pub equal? : (x y : ℕ) → (x ≡ y) ⊎ (x ≡ y → ⊥)
equal? x y = ⊎_elim (λ t. inl (T_eq t)) (λ t. inr (T_ne t)) (decided (eqb x y))

pub proper_map : (n : ℕ) (m : List ℕ) → MapBytes n m → IsMap n (side n m)
proper_map n m p = side_map n m p.sides

module _ (n : ℕ) (m : List ℕ) (a v : ℕ) (w : Within n a) where
  pub proper_put : v ≤ 2 → MapBytes n m → MapBytes n (set m (a - 1) v)
  proper_put h p =
      record {
        room = simp length-set p.room;
        sides =
            λ i l.
            ⊎_elim
            (λ (e : i ≡ a - 1). subst (λ (x : ℕ). get_or (set m (a - 1) v) x 0 ≤ 2) (sym e)
            (subst (λ (x : ℕ). x ≤ 2) (sym (get_or-set_same m (a - 1) v 0 (omega (arith, p.room)))) h))
            (λ (f : i ≡ a - 1 → ⊥). subst (λ (x : ℕ). x ≤ 2) (sym (get_or-set_other m (a - 1) i v 0 f)) (p.sides i l))
            (equal? i (a - 1));
      }

-- how many of some bytes are zero
zeros : List ℕ → ℕ
zeros xs = tally (λ b. eqb b 0) (λ _. 1) xs

zero_less :
    (v : ℕ) → (v ≡ 0 → ⊥) → (n i : ℕ) (m : List ℕ) → i < n → i < length m → get_or m i 0 ≡ 0
    → zeros (take n (set m i v)) < zeros (take n m)
unfolding zeros tally
zero_less v f n i [] h k e = absurd (omega arith)
zero_less v f zero i (x ∷ xs) h k e = absurd (omega arith)
zero_less v f (suc n) zero (x ∷ xs) h k e =
    omega (arith, ap (λ (b : Bool). counted b 1) (ne_eqb v 0 f), ap (λ (b : Bool). counted b 1) (eq-eqb x 0 e))
zero_less v f (suc n) (suc i) (x ∷ xs) h k e = omega (arith, zero_less v f n i xs (omega arith) (omega arith) e)

-- a decided atom more is an undecided one less
pub fewer_put :
    (n : ℕ) (m : List ℕ) (a v : ℕ) → Within n a → n ≤ length m → side n m a ≡ 0 → (v ≡ 0 → ⊥)
    → undecided n (set m (a - 1) v) < undecided n m
unfolding undecided zeros
fewer_put n m a v w h e f = zero_less v f n (a - 1) m (omega arith) (omega arith) (sym (side_at n m a w) ∙ e)

-- a list of zeros is a map in which every atom is undecided
module _ (k n : ℕ) (h : n ≤ k) where
  pub blank_room : n ≤ length (replicate {A = ℕ} k 0)
  blank_room = subst (λ (x : ℕ). n ≤ x) (sym (length-replicate k 0)) h

  pub blank_proper : MapBytes n (replicate k 0)
  blank_proper =
      record
      { room = blank_room; sides = λ i l. subst (λ (x : ℕ). x ≤ 2) (sym (get_or-replicate k i 0 0 (omega arith))) (omega arith) }

  pub blank_side : (a : ℕ) → side n (replicate k 0) a ≡ 0
  blank_side a =
      ⊎_elim
      (λ (w : Within n a). side_at n (replicate k 0) a w ∙ get_or-replicate k (a - 1) 0 0 (omega arith))
      (side_beyond n (replicate k 0) a)
      (within? n a)
