-- The row of a rule that was written stands for that rule: its words are the row's and its pairs the rule's lists.
use Prim.Native.Nat.{ℕ, ◌+◌, ◌*◌, ◌≤◌, ◌<◌}
use mathlib.Core.Path.{◌≡◌, sym, ◌∙◌, ap}
use mathlib.Core.List.{List, [], ◌∷◌}
use native.Mathlib.Omega.{arith}
use native.Mathlib.Nat.{add-zero}
use lib.ListN.{length, get_or, length-map}
use Rattle.rules.specs.Rule.{Rule, kind_number, kind_of, ones, atoms_of}
use Rattle.sheet.specs.Shown.Encode.{rules_size}
use Rattle.sheet.proofs.rule.Apart.{ones_atoms}
use Rattle.table.specs.Inner.Words.{row_width, pair_width, word_at, seg, seg_atoms}
use Rattle.table.specs.Inner.Rows.{kind_at, need_at, heads_at, positives_at, negatives_at, end_at, row_rule}
use Rattle.decode.specs.Inner.Pairs.{with_pairs}
use Rattle.decode.specs.Inner.Rows.{positives_from, negatives_from, end_from, with_body, with_row, with_rule, with_end, with_last, RowWritten, TableRoom}
use Rattle.decode.proofs.Taken.{kind_written}
use Rattle.decode.proofs.words.Laws.{word_same, word_other, words_other, words_at}
use Rattle.decode.proofs.rows.Laws.{body_long, rule_long}
use Rattle.decode.proofs.pairs.Laws.{pairs_long, pairs_below, seg_same, seg_written}

-- the pairs of a rule, as its lists
module _ (c : List ℕ) (j : ℕ) (r : Rule) (room : pair_width * end_from j r ≤ length c) where
  body_heads : seg (with_body c j r) j (positives_from j r) ≡ ones r.heads
  unfolding with_body positives_from negatives_from end_from pair_width
  body_heads =
      let e : j + length (ones r.heads) ≡ positives_from j r = ap (◌+◌ j) (length-map r.heads _) in
      seg_same (with_pairs c j (ones r.heads)) _ j (positives_from j r)
      (λ w l h.
      pairs_below _ (negatives_from j r) r.neg w (omega arith) ∙ pairs_below _ (positives_from j r) r.pos w h)
      ∙ ap (seg (with_pairs c j (ones r.heads)) j) (sym e)
      ∙ seg_written c j (ones r.heads) (omega arith)

  body_pos : seg (with_body c j r) (positives_from j r) (negatives_from j r) ≡ r.pos
  unfolding with_body positives_from negatives_from end_from pair_width
  body_pos =
      seg_same (with_pairs (with_pairs c j (ones r.heads)) (positives_from j r) r.pos) _ (positives_from j r) (negatives_from j r)
      (λ w l h. pairs_below _ (negatives_from j r) r.neg w h)
      ∙ seg_written _ (positives_from j r) r.pos (omega (arith, pairs_long c j (ones r.heads)))

  body_neg : seg (with_body c j r) (negatives_from j r) (end_from j r) ≡ r.neg
  unfolding with_body positives_from negatives_from end_from pair_width
  body_neg = seg_written _ (negatives_from j r) r.neg (simp pairs_long room)

abbrev row_words : ℕ → Rule → List ℕ
row_words j r = kind_number r.kind ∷ r.need ∷ j ∷ positives_from j r ∷ negatives_from j r ∷ []

module _ (c : List ℕ) (i j : ℕ) (r : Rule) (room : TableRoom c i j (r ∷ [])) where
  cell_written : (m : ℕ) → m < row_width → word_at (with_last c i j r) (row_width * i + m) ≡ get_or (row_words j r) m 0
  unfolding with_last with_end with_rule with_row row_width pair_width positives_from negatives_from end_from rules_size
  cell_written m h =
      word_other _ (row_width * (i + 1) + 2) _ (row_width * i + m) (λ e. omega arith)
      ∙ words_at (with_body c j r) (row_width * i) (row_words j r) m h (omega (arith, body_long c j r))

  pairs_written : (w : ℕ) → pair_width * j ≤ w → w < pair_width * end_from j r → word_at (with_last c i j r) w ≡ word_at (with_body c j r) w
  unfolding with_last with_end with_rule with_row row_width
  pairs_written w l h =
      word_other _ (row_width * (i + 1) + 2) _ w (λ e. omega arith) ∙ words_other (with_body c j r) (row_width * i) _ w (λ k b e. omega arith)

  pub last_written : RowWritten (with_last c i j r) i j r
  unfolding kind_at need_at heads_at positives_at negatives_at positives_from negatives_from end_from row_width pair_width rules_size with_last with_end
  last_written =
      let fits : pair_width * end_from j r ≤ length c = omega arith in
      record {
        kind =
            ap (λ (w : ℕ). kind_of (word_at (with_last c i j r) w)) (sym (add-zero (row_width * i)))
            ∙ ap kind_of (cell_written 0 (omega arith))
            ∙ kind_written r.kind;
        need = cell_written 1 (omega arith);
        heads_from = cell_written 2 (omega arith);
        pos_from = cell_written 3 (omega arith);
        neg_from = cell_written 4 (omega arith);
        end = word_same (with_rule c i j r) (row_width * (i + 1) + 2) (end_from j r) (omega (arith, rule_long c i j r));
        heads = seg_same (with_body c j r) _ j (positives_from j r) (λ w l h. pairs_written w l (omega arith)) ∙ body_heads c j r fits;
        pos =
            seg_same (with_body c j r) _ (positives_from j r) (negatives_from j r) (λ w l h. pairs_written w (omega arith) (omega arith))
            ∙ body_pos c j r fits;
        neg =
            seg_same (with_body c j r) _ (negatives_from j r) (end_from j r) (λ w l h. pairs_written w (omega arith) h) ∙ body_neg c j r fits;
      }

pub row_written : {c : List ℕ} {i j : ℕ} {r : Rule} → RowWritten c i j r → row_rule c i ≡ r
row_written {c} {i} {j} {r} w =
    let heads : seg_atoms c (heads_at c i) (positives_at c i) ≡ r.heads =
    ap (λ (x : ℕ). seg_atoms c x (positives_at c i)) w.heads_from
    ∙ ap (seg_atoms c j) w.pos_from
    ∙ ap atoms_of w.heads
    ∙ ones_atoms r.heads
    in
    let pos : seg c (positives_at c i) (negatives_at c i) ≡ r.pos = rw (w.pos_from, w.neg_from) w.pos in
    let neg : seg c (negatives_at c i) (end_at c i) ≡ r.neg = rw (w.neg_from, w.end) w.neg in
    let kind = w.kind in
    let need = w.need in
    let e :
    row_rule c i ≡ record { kind = r.kind; heads = r.heads; need = r.need; pos = r.pos; neg = r.neg } =
    cc
    in
    e
