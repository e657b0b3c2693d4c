-- Writing a rule touches the words of its row, where the next row begins, and the pairs from a place on, and no other word, and leaves as
-- much room as the rules that are left need.
use Prim.Native.Nat.{ℕ, ◌+◌, ◌*◌, ◌≤◌, ◌<◌}
use mathlib.Core.Path.{◌≡◌, ◌∙◌}
use mathlib.Core.List.{List, ◌∷◌}
use native.Mathlib.Omega.{arith}
use lib.ListN.{length, set, length-set}
use Rattle.rules.specs.Limits.{number_most}
use Rattle.rules.specs.Rule.{Rule, ones, kind_number}
use Rattle.rules.specs.declared.kind.Kind.{Kind}
use Rattle.rules.specs.declared.kind.Kind.TheVariants.{Basic as basic, Constraint as constraint, Choice as choice, Weight as weight}
use Rattle.sheet.specs.Shown.Encode.{rules_size}
use Rattle.table.specs.Inner.Words.{row_width, pair_width, word_at}
use Rattle.decode.specs.Inner.Rows.{positives_from, negatives_from, end_from, with_body, with_row, with_rule, with_end, with_last, TableRoom}
use Rattle.decode.proofs.words.Laws.{word_other, words_long, words_other, five_words}
use Rattle.decode.proofs.pairs.Laws.{pairs_long, pairs_below}

pub body_long : (c : List ℕ) (j : ℕ) (r : Rule) → length (with_body c j r) ≡ length c
unfolding with_body
body_long c j r = simp pairs_long

-- five words, one after another, are a row
pub row_put :
    (c : List ℕ) (i a b d e f : ℕ) {c₁ c₂ c₃ c₄ c₅ : List ℕ} → c₁ ≡ set c (row_width * i) a → c₂ ≡ set c₁ (row_width * i + 1) b
    → c₃ ≡ set c₂ (row_width * i + 2) d → c₄ ≡ set c₃ (row_width * i + 3) e → c₅ ≡ set c₄ (row_width * i + 4) f
    → c₅ ≡ with_row c i a b d e f
unfolding with_row
row_put c i a b d e f h₁ h₂ h₃ h₄ h₅ = cc (five_words c (row_width * i) a b d e f)

-- a kind's number is a sheet's
pub kind_fits : (kind : Kind) → kind_number kind ≤ number_most
unfolding number_most
kind_fits basic = omega arith
kind_fits constraint = omega arith
kind_fits choice = omega arith
kind_fits weight = omega arith

pub row_long : (c : List ℕ) (i a b d e f : ℕ) → length (with_row c i a b d e f) ≡ length c
unfolding with_row
row_long c i a b d e f = simp words_long

pub rule_long : (c : List ℕ) (i j : ℕ) (r : Rule) → length (with_rule c i j r) ≡ length c
unfolding with_rule
rule_long c i j r = simp (row_long, body_long)

pub last_long : (c : List ℕ) (i j : ℕ) (r : Rule) → length (with_last c i j r) ≡ length c
unfolding with_last with_end
last_long c i j r = simp (length-set, rule_long)

pub body_below : (c : List ℕ) (j : ℕ) (r : Rule) (w : ℕ) → w < pair_width * j → word_at (with_body c j r) w ≡ word_at c w
unfolding with_body positives_from negatives_from pair_width
body_below c j r w h =
    pairs_below _ (negatives_from j r) r.neg w (omega arith)
    ∙ pairs_below _ (positives_from j r) r.pos w (omega arith)
    ∙ pairs_below c j (ones r.heads) w h

rule_other :
    (c : List ℕ) (i j : ℕ) (r : Rule) (w : ℕ) → w < pair_width * j → ((m : ℕ) → m < row_width → w ≡ row_width * i + m → ⊥)
    → word_at (with_rule c i j r) w ≡ word_at c w
unfolding with_rule with_row row_width
rule_other c i j r w h clear = words_other _ (row_width * i) _ w (λ m l e. clear m l e) ∙ body_below c j r w h

-- a word before the pairs, of no row from i on
pub last_other :
    (c : List ℕ) (i j : ℕ) (r : Rule) (w : ℕ) → w < pair_width * j → ((m : ℕ) → m < row_width → w ≡ row_width * i + m → ⊥)
    → (w ≡ row_width * (i + 1) + 2 → ⊥) → word_at (with_last c i j r) w ≡ word_at c w
unfolding with_last with_end
last_other c i j r w h clear next =
    word_other (with_rule c i j r) (row_width * (i + 1) + 2) (end_from j r) w next ∙ rule_other c i j r w h clear

pub room_next : (c : List ℕ) (i j : ℕ) (r : Rule) (rs : List Rule) → TableRoom c i j (r ∷ rs) → TableRoom (with_rule c i j r) (i + 1) (end_from j r) rs
unfolding rules_size row_width pair_width positives_from negatives_from end_from
room_next c i j r rs room = record { rows = omega arith; pairs = omega (arith, rule_long c i j r); few = omega arith }
