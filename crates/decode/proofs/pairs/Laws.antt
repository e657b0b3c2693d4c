-- Pairs that were written one after another are the list, and no word below the first of them has changed: each write touches the
-- two words of its own pair alone.
use Prim.Native.Nat.{ℕ, zero, suc, ◌+◌, ◌*◌, ◌-◌, ◌≤◌, ◌<◌}
use mathlib.Core.Path.{◌≡◌, refl, sym, ◌∙◌, ap, ap₂}
use mathlib.Core.List.{List, [], ◌∷◌}
use native.Mathlib.Omega.{arith}
use native.Mathlib.Nat.{add-zero}
use native.Mathlib.Numerals.{add-one}
use lib.ListN.{length, set}
use Rattle.rules.specs.Rule.{Weighted, weighted}
use Rattle.table.specs.Inner.Words.{pair_width, word_at, pair_atom, pair_weight, pair_at, pairs_from, seg}
use Rattle.decode.specs.Inner.Words.{with_words}
use Rattle.decode.specs.Inner.Pairs.{with_pair, with_pairs, PairsCopied}
use Rattle.decode.proofs.words.Laws.{words_long, words_other, words_at}

-- two words, one after the other, are a list of one
pub pair_put :
    (c : List ℕ) (j a w : ℕ) {d e : List ℕ} → d ≡ set c (pair_width * j) w → e ≡ set d (pair_width * j + 1) a
    → PairsCopied c j (weighted a w ∷ []) e (j + 1)
unfolding with_pair with_pairs with_words
pair_put c j a w f g = record { code = g ∙ ap (λ (x : List ℕ). set x (pair_width * j + 1) a) f; end = refl }

pub pair_long : (c : List ℕ) (j a w : ℕ) → length (with_pair c j a w) ≡ length c
unfolding with_pair
pair_long c j a w = words_long c (pair_width * j) (w ∷ a ∷ [])

pub pairs_long : (c : List ℕ) (j : ℕ) (ls : List Weighted) → length (with_pairs c j ls) ≡ length c
unfolding with_pairs
pairs_long c j [] = refl
pairs_long c j (l ∷ ls) = pairs_long (with_pair c j l.atom l.weight) (j + 1) ls ∙ pair_long c j l.atom l.weight

pub pair_below : (c : List ℕ) (j a v w : ℕ) → w < pair_width * j → word_at (with_pair c j a v) w ≡ word_at c w
unfolding with_pair
pair_below c j a v w h = words_other c (pair_width * j) (v ∷ a ∷ []) w (λ k l e. omega arith)

pub pairs_below : (c : List ℕ) (j : ℕ) (ls : List Weighted) (w : ℕ) → w < pair_width * j → word_at (with_pairs c j ls) w ≡ word_at c w
unfolding with_pairs pair_width
pairs_below c j [] w h = refl
pairs_below c j (l ∷ ls) w h =
    pairs_below (with_pair c j l.atom l.weight) (j + 1) ls w (omega arith) ∙ pair_below c j l.atom l.weight w h

-- a pair that was written, with other pairs after it
module _ (c : List ℕ) (j : ℕ) (l : Weighted) (ls : List Weighted) (room : pair_width * (j + 1) ≤ length c) where
  pub atom_written : pair_atom (with_pairs c j (l ∷ ls)) j ≡ l.atom
  unfolding pair_atom with_pair with_pairs pair_width
  atom_written =
      pairs_below (with_pair c j l.atom l.weight) (j + 1) ls (pair_width * j + 1) (omega arith)
      ∙ words_at c (pair_width * j) (l.weight ∷ l.atom ∷ []) 1 (omega arith) (omega arith)

  pub weight_written : pair_weight (with_pairs c j (l ∷ ls)) j ≡ l.weight
  unfolding pair_weight with_pair with_pairs pair_width
  weight_written =
      pairs_below (with_pair c j l.atom l.weight) (j + 1) ls (pair_width * j) (omega arith)
      ∙ ap (word_at (with_pair c j l.atom l.weight)) (sym (add-zero (pair_width * j)))
      ∙ words_at c (pair_width * j) (l.weight ∷ l.atom ∷ []) 0 (omega arith) (omega arith)

-- two tables agree on the words of some pairs, so the pairs are the same
pub run_same :
    (c d : List ℕ) (k j : ℕ) → ((w : ℕ) → pair_width * j ≤ w → w < pair_width * (j + k) → word_at d w ≡ word_at c w) → pairs_from d k j ≡ pairs_from c k j
unfolding pairs_from pair_atom pair_weight pair_width
run_same c d zero j same = refl
run_same c d (suc k) j same =
    let a : pair_atom d j ≡ pair_atom c j = same (pair_width * j + 1) (omega arith) (omega arith) in
    let b : pair_weight d j ≡ pair_weight c j = same (pair_width * j) (omega arith) (omega arith) in
    let r : pairs_from d k (suc j) ≡ pairs_from c k (suc j) = run_same c d k (suc j) (λ w l h. same w (omega arith) (omega arith)) in
    cc

pub seg_same :
    (c d : List ℕ) (from to : ℕ) → ((w : ℕ) → pair_width * from ≤ w → w < pair_width * to → word_at d w ≡ word_at c w)
    → seg d from to ≡ seg c from to
unfolding seg pair_width
seg_same c d from to same = run_same c d (to - from) from (λ w l h. same w l (omega arith))

same_pair : (a w : ℕ) (l : Weighted) → a ≡ l.atom → w ≡ l.weight → weighted a w ≡ l
same_pair a w l e f = ap₂ weighted e f

run_written :
    (c : List ℕ) (j : ℕ) (ls : List Weighted) → pair_width * (j + length ls) ≤ length c → pairs_from (with_pairs c j ls) (length ls) j ≡ ls
unfolding pairs_from with_pairs pair_width
run_written c j [] h = refl
run_written c j (l ∷ ls) h =
    let p : pair_at (with_pairs c j (l ∷ ls)) j ≡ l = same_pair _ _ l (atom_written c j l ls (omega arith)) (weight_written c j l ls (omega arith)) in
    let r : pairs_from (with_pairs c j (l ∷ ls)) (length ls) (suc j) ≡ ls =
    ap (pairs_from (with_pairs c j (l ∷ ls)) (length ls)) (sym (add-one j))
    ∙ run_written (with_pair c j l.atom l.weight) (j + 1) ls (omega (arith, pair_long c j l.atom l.weight))
    in
    cc

pub seg_written :
    (c : List ℕ) (j : ℕ) (ls : List Weighted) → pair_width * (j + length ls) ≤ length c → seg (with_pairs c j ls) j (j + length ls) ≡ ls
unfolding seg
seg_written c j ls h =
    let e : (j + length ls) - j ≡ length ls = omega arith in
    ap (λ (k : ℕ). pairs_from (with_pairs c j ls) k j) e ∙ run_written c j ls h
