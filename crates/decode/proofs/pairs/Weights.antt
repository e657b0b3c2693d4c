-- Weights that are written over those of some pairs: each touches the second word of its own pair alone. So over a list whose atoms have
-- weight 1 they make up the list of the atoms with their weights, and pairs that come after do not matter.
use Prim.Native.Nat.{ℕ, zero, suc, ◌+◌, ◌*◌, ◌-◌, ◌≤◌, ◌<◌}
use mathlib.Core.Path.{◌≡◌, refl, sym, ◌∙◌, ap, ap₂}
use mathlib.Core.List.{List, [], ◌∷◌}
use native.Mathlib.Omega.{arith}
use lib.ListN.{length, set, length-set}
use Rattle.rules.specs.Rule.{Weighted, ones}
use Rattle.numbers.specs.Number.{taken_at}
use Rattle.numbers.specs.Lists.{numbers_from}
use Rattle.numbers.specs.declared.Span.{Span}
use Rattle.numbers.proofs.lists.Numbers.{numbers_turn, numbers_over}
use Rattle.sheet.specs.RuleMeaning.{paired}
use Rattle.table.specs.Inner.Words.{pair_width}
use Rattle.repeats.specs.Inner.Marks.{mixed, carried, mixed_all, weights_mark}
use Rattle.repeats.proofs.marks.Laws.{mark_turn, mark_done}
use Rattle.decode.specs.Inner.Words.{with_words}
use Rattle.decode.specs.Inner.Taken.{numbers_past}
use Rattle.decode.proofs.Taken.{past_turn, past_over}
use Rattle.decode.specs.Inner.Pairs.{with_pair, with_pairs, with_weights, WeightsCopied}

set_twice : (c : List ℕ) (i v w : ℕ) → set (set c i v) i w ≡ set c i w
set_twice [] i v w = refl
set_twice (x ∷ c) zero v w = refl
set_twice (x ∷ c) (suc i) v w = ap (◌∷◌ x) (set_twice c i v w)

set_apart : (c : List ℕ) (i k v w : ℕ) → (i ≡ k → ⊥) → set (set c i v) k w ≡ set (set c k w) i v
set_apart [] i k v w h = refl
set_apart (x ∷ c) zero zero v w h = absurd (h refl)
set_apart (x ∷ c) zero (suc k) v w h = refl
set_apart (x ∷ c) (suc i) zero v w h = refl
set_apart (x ∷ c) (suc i) (suc k) v w h = ap (◌∷◌ x) (set_apart c i k v w (λ e. h (ap suc e)))

pairs_set : (c : List ℕ) (j : ℕ) (ls : List Weighted) (k w : ℕ) → k < pair_width * j → set (with_pairs c j ls) k w ≡ with_pairs (set c k w) j ls
unfolding with_pairs with_pair with_words pair_width
pairs_set c j [] k w h = refl
pairs_set c j (l ∷ ls) k w h =
    pairs_set (with_pair c j l.atom l.weight) (j + 1) ls k w (omega arith)
    ∙ ap (λ (d : List ℕ). with_pairs d (j + 1) ls)
    (set_apart (set c (pair_width * j) l.weight) (pair_width * j + 1) k l.atom w (λ e. omega arith)
    ∙ ap (λ (d : List ℕ). set d (pair_width * j + 1) l.atom)
    (set_apart c (pair_width * j) k l.weight w (λ e. omega arith)))

pair_weight_law : (c : List ℕ) (j a v w : ℕ) → set (with_pair c j a v) (pair_width * j) w ≡ with_pair c j a w
unfolding with_pair with_words
pair_weight_law c j a v w =
    set_apart (set c (pair_width * j) v) (pair_width * j + 1) (pair_width * j) a w (λ e. omega arith)
    ∙ ap (λ (d : List ℕ). set d (pair_width * j + 1) a) (set_twice c (pair_width * j) v w)

pub weights_on :
    (c : List ℕ) (j : ℕ) (xs ws : List ℕ) → length xs ≡ length ws → with_weights (with_pairs c j (ones xs)) j ws ≡ with_pairs c j (paired xs ws)
unfolding with_pairs with_weights paired pair_width
weights_on c j [] [] e = refl
weights_on c j [] (w ∷ ws) e = absurd (omega arith)
weights_on c j (x ∷ xs) [] e = absurd (omega arith)
weights_on c j (x ∷ xs) (w ∷ ws) e =
    ap (λ (d : List ℕ). with_weights d (j + 1) ws)
    (pairs_set (with_pair c j x 1) (j + 1) (ones xs) (pair_width * j) w (omega arith)
    ∙ ap (λ (d : List ℕ). with_pairs d (j + 1) (ones xs)) (pair_weight_law c j x 1 w))
    ∙ weights_on (with_pair c j x w) (j + 1) xs ws (omega arith)

pub weights_below :
    (c : List ℕ) (j : ℕ) (ws : List ℕ) (k : ℕ) (ls : List Weighted) → j + length ws ≤ k
    → with_weights (with_pairs c k ls) j ws ≡ with_pairs (with_weights c j ws) k ls
unfolding with_weights pair_width
weights_below c j [] k ls h = refl
weights_below c j (w ∷ ws) k ls h =
    ap (λ (d : List ℕ). with_weights d (j + 1) ws) (pairs_set c k ls (pair_width * j) w (omega arith))
    ∙ weights_below (set c (pair_width * j) w) (j + 1) ws k ls (omega arith)

pub weights_long : (c : List ℕ) (j : ℕ) (ws : List ℕ) → length (with_weights c j ws) ≡ length c
unfolding with_weights
weights_long c j [] = refl
weights_long c j (w ∷ ws) = weights_long (set c (pair_width * j) w) (j + 1) ws ∙ length-set c (pair_width * j) w

-- what is left of the weights of the pairs from j to before another, the first of which is at a place, makes up all of them
pub record WeightsLeft (s c₀ : List ℕ) (from to first before : ℕ) (c : List ℕ) (j at mark : ℕ) : Type 0 where
  pub low : from ≤ j
  pub high : j ≤ to
  pub code : with_weights c j (numbers_from (to - j) s at) ≡ with_weights c₀ from (numbers_from (to - from) s first)
  pub place : numbers_past (to - j) s at ≡ numbers_past (to - from) s first
  pub marked : mixed_all 1 mark (j - from) (numbers_from (to - j) s at) ≡ weights_mark before (numbers_from (to - from) s first)
  pub long : length c ≡ length c₀

pub weights_begin :
    (s c : List ℕ) (from to first before : ℕ) → from ≤ to → {mark : ℕ} → mark ≡ carried before
    → WeightsLeft s c from to first before c from first mark
weights_begin s c from to first before h {mark} m =
    record {
      low = omega arith;
      high = h;
      code = refl;
      place = refl;
      marked = let z : from - from ≡ 0 = omega arith in ap₂ (λ (m k : ℕ). mixed_all 1 m k (numbers_from (to - from) s first)) m z;
      long = refl;
    }

module _
    (s c₀ : List ℕ)
    (from to first before : ℕ)
    (c : List ℕ)
    (j at mark : ℕ)
    (left : WeightsLeft s c₀ from to first before c j at mark)
  where
    pub weights_turn :
        j < to → {p : Span} → p ≡ taken_at s at → {d : List ℕ} → d ≡ set c (pair_width * j) p.value
        → {m : ℕ} → m ≡ mixed mark (j - from) p.value → WeightsLeft s c₀ from to first before d (j + 1) p.next m
    unfolding with_weights
    weights_turn h {p} e {d} w {m} f =
        let l = left.low in
        let z : (j + 1) - from ≡ (j - from) + 1 = omega arith in
        record {
          low = omega arith;
          high = omega arith;
          code =
              ap (λ (x : List ℕ). with_weights x (j + 1) (numbers_from (to - (j + 1)) s p.next)) w
              ∙ sym (ap (with_weights c j) (numbers_turn s to j at h e))
              ∙ left.code;
          place = past_turn s to j at h e ∙ left.place;
          marked =
              ap (λ (k : ℕ). mixed_all 1 m k (numbers_from (to - (j + 1)) s p.next)) z
              ∙ mark_turn 1 mark (j - from) (numbers_turn s to j at h e) f
              ∙ left.marked;
          long = ap length w ∙ length-set c (pair_width * j) p.value ∙ left.long;
        }

    pub weights_done : to ≤ j → WeightsCopied s first c₀ from to before c (record { pair = to; next = at; mark = mark })
    unfolding with_weights
    weights_done h =
        let over = numbers_over s to j at h in
        record {
          pair = refl;
          code = sym (ap (with_weights c j) over) ∙ left.code;
          next = sym (past_over s to j at h) ∙ left.place;
          mark = mark_done 1 mark (j - from) over ∙ left.marked;
        }
