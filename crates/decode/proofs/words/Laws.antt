-- Words that were written one after another stand there, and every other word is as it was: each write touches its own word alone.
use Prim.Native.Nat.{ℕ, zero, suc, ◌+◌, ◌≤◌, ◌<◌}
use mathlib.Core.Path.{◌≡◌, refl, ◌∙◌, ap}
use mathlib.Core.List.{List, [], ◌∷◌}
use native.Mathlib.Omega.{arith}
use native.Mathlib.Nat.{add-zero, add_assoc}
use lib.ListN.{length, get_or, set, length-set}
use lib.Seq.{get_or-set_same, get_or-set_other}
use Rattle.table.specs.Inner.Words.{word_at}
use Rattle.decode.specs.Inner.Words.{with_words}

pub word_same : (c : List ℕ) (i v : ℕ) → i < length c → word_at (set c i v) i ≡ v
unfolding word_at
word_same c i v h = get_or-set_same c i v 0 h

pub word_other : (c : List ℕ) (i v w : ℕ) → (w ≡ i → ⊥) → word_at (set c i v) w ≡ word_at c w
unfolding word_at
word_other c i v w h = get_or-set_other c i w v 0 h

pub words_long : (c : List ℕ) (i : ℕ) (vs : List ℕ) → length (with_words c i vs) ≡ length c
unfolding with_words
words_long c i [] = refl
words_long c i (v ∷ vs) = words_long (set c i v) (i + 1) vs ∙ length-set c i v

pub words_other :
    (c : List ℕ) (i : ℕ) (vs : List ℕ) (w : ℕ) → ((k : ℕ) → k < length vs → w ≡ i + k → ⊥) → word_at (with_words c i vs) w ≡ word_at c w
unfolding with_words
words_other c i [] w apart = refl
words_other c i (v ∷ vs) w apart =
    words_other (set c i v) (i + 1) vs w (λ k h e. apart (suc k) (omega arith) (omega arith))
    ∙ word_other c i v w (λ e. apart 0 (omega arith) (omega arith))

pub words_at :
    (c : List ℕ) (i : ℕ) (vs : List ℕ) (k : ℕ) → k < length vs → i + length vs ≤ length c → word_at (with_words c i vs) (i + k) ≡ get_or vs k 0
unfolding with_words
words_at c i [] k h room = absurd (omega arith)
words_at c i (v ∷ vs) zero h room =
    ap (word_at (with_words (set c i v) (i + 1) vs)) (add-zero i)
    ∙ words_other (set c i v) (i + 1) vs i (λ k l e. omega arith)
    ∙ word_same c i v (omega arith)
words_at c i (v ∷ vs) (suc k) h room =
    let e : i + suc k ≡ (i + 1) + k = omega arith in
    ap (word_at (with_words (set c i v) (i + 1) vs)) e
    ∙ words_at (set c i v) (i + 1) vs k (omega arith) (omega (arith, length-set c i v))

-- five words, each at its own place
pub five_words :
    (c : List ℕ) (i a b d e f : ℕ)
    → with_words c i (a ∷ b ∷ d ∷ e ∷ f ∷ []) ≡ set (set (set (set (set c i a) (i + 1) b) (i + 2) d) (i + 3) e) (i + 4) f
unfolding with_words
five_words c i a b d e f = simp add_assoc
