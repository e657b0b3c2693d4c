-- A row and its pairs are touched by no later row and no later pair, so the rows that stand go on standing while the next one is written;
-- and where that is a new rule, there is one row more.
use Prim.Native.Nat.{ℕ, ◌+◌, ◌*◌, ◌≤◌, ◌<◌}
use mathlib.Core.Path.{◌≡◌, sym, ◌∙◌, ap, subst}
use mathlib.Core.Logic.{◌⊎◌, inl, inr, ⊎_elim}
use mathlib.Core.List.{List, [], ◌∷◌, Memᴰ}
use native.Mathlib.Omega.{arith}
use native.Mathlib.Nat.{add-zero, eq-or-lt_of_le}
use lib.ListN.{length, get_or}
use Rattle.rules.specs.Limits.{number_most}
use Rattle.rules.specs.Rule.{Rule, Weighted, kind_of, one, ones, no_rule}
use Rattle.rules.proofs.Members.{map_mem}
use Rattle.table.specs.Inner.Words.{row_width, pair_width, word_at, pair_at}
use Rattle.table.specs.Inner.Rows.{kind_at, need_at, heads_at, positives_at, negatives_at, row_rule}
use Rattle.table.proofs.Words.{seg_mem}
use Rattle.repeats.specs.Inner.Same.{Filled}
use Rattle.decode.specs.Inner.Rows.{positives_from, negatives_from, end_from, with_last, RowWritten, TableRoom, RowStands, RowHas, Stood}
use Rattle.decode.proofs.rows.Laws.{last_other}
use Rattle.decode.proofs.rows.Written.{last_written, row_written}
use Rattle.decode.proofs.pairs.Laws.{seg_same}

-- a row whose words and pairs are the same in another table stands there too
row_kept :
    {c d : List ℕ} {q j : ℕ} {r : Rule} → RowWritten c q j r
    → ((m : ℕ) → m < row_width → word_at d (row_width * q + m) ≡ word_at c (row_width * q + m)) → heads_at d (q + 1) ≡ heads_at c (q + 1)
    → ((w : ℕ) → pair_width * j ≤ w → w < pair_width * end_from j r → word_at d w ≡ word_at c w) → RowWritten d q j r
unfolding kind_at need_at heads_at positives_at negatives_at positives_from negatives_from end_from row_width pair_width
row_kept {c} {d} {q} {j} {r} w cell next pair =
    record {
      kind =
          ap (λ (x : ℕ). kind_of (word_at d x)) (sym (add-zero (row_width * q)))
          ∙ ap kind_of (cell 0 (omega arith))
          ∙ ap (λ (x : ℕ). kind_of (word_at c x)) (add-zero (row_width * q))
          ∙ w.kind;
      need = cell 1 (omega arith) ∙ w.need;
      heads_from = cell 2 (omega arith) ∙ w.heads_from;
      pos_from = cell 3 (omega arith) ∙ w.pos_from;
      neg_from = cell 4 (omega arith) ∙ w.neg_from;
      end = next ∙ w.end;
      heads = seg_same c d j (positives_from j r) (λ x l h. pair x l (omega arith)) ∙ w.heads;
      pos = seg_same c d (positives_from j r) (negatives_from j r) (λ x l h. pair x (omega arith) (omega arith)) ∙ w.pos;
      neg = seg_same c d (negatives_from j r) (end_from j r) (λ x l h. pair x (omega arith) h) ∙ w.neg;
    }

-- it is filled: its heads were written with weight 1
pub row_filled : {c : List ℕ} {q j : ℕ} {r : Rule} → RowWritten c q j r → 1 ≤ length r.heads → end_from j r ≤ number_most → Filled c q
unfolding positives_from negatives_from end_from
row_filled {c} {q} {j} {r} w headed far =
    record {
      headed = omega (arith, w.heads_from, w.pos_from, headed);
      order = omega (arith, w.pos_from, w.neg_from, w.end);
      far = omega (arith, w.end, far);
      ones =
          λ x low high.
          let among : Memᴰ (pair_at c x) (ones r.heads) =
          subst (Memᴰ (pair_at c x)) w.heads
          (seg_mem c j (positives_from j r) x (record { low = omega (arith, w.heads_from, low); high = omega (arith, w.pos_from, high) }))
          in
          ap (λ (l : Weighted). l.weight) (map_mem one r.heads among).2;
    }

-- the rows before row k, while row k is written
module _ {c : List ℕ} {k j : ℕ} (r : Rule) (room : TableRoom c k j (r ∷ [])) {rs : List Rule} {first i : ℕ} (below : row_width * (k + 2) ≤ pair_width * first) (stood : Stood rs first c i k j) where
  abbrev d : List ℕ
  d = with_last c k j r

  pub last_row : RowWritten d k j r
  last_row = last_written c k j r room

  cell_kept : (q m : ℕ) → q < k → m < row_width → word_at d (row_width * q + m) ≡ word_at c (row_width * q + m)
  unfolding row_width pair_width
  cell_kept q m h l =
      last_other c k j r (row_width * q + m) (omega (arith, room.rows)) (λ x y e. omega arith) (λ e. omega arith)

  next_kept : (q : ℕ) → q < k → heads_at d (q + 1) ≡ heads_at c (q + 1)
  unfolding heads_at row_width
  next_kept q h =
      ⊎_elim
      (λ (e : q + 1 ≡ k).
      ap (heads_at d) e ∙ last_row.heads_from ∙ sym (stood.top q e) ∙ ap (heads_at c) (sym e))
      (λ (l : q + 1 < k). cell_kept (q + 1) 2 l (omega arith))
      (eq-or-lt_of_le (omega (arith, h)))

  word_kept :
      (q : ℕ) (h : q < k) (w : ℕ) → pair_width * (stood.rows q h).place ≤ w
      → w < pair_width * end_from (stood.rows q h).place (stood.rows q h).rule → word_at d w ≡ word_at c w
  unfolding row_width pair_width
  word_kept q h w low high =
      let s = stood.rows q h in
      last_other c k j r w (omega (arith, s.high)) (λ x y e. omega (arith, s.low)) (λ e. omega (arith, s.low))

  written_kept : (q : ℕ) (h : q < k) → RowWritten d q (stood.rows q h).place (stood.rows q h).rule
  written_kept q h = row_kept (stood.rows q h).written (λ m l. cell_kept q m h l) (next_kept q h) (word_kept q h)

  rows_kept : (q : ℕ) → q < k → RowStands d rs first j q
  rows_kept q h =
      let s = stood.rows q h in
      record {
        place = s.place;
        rule = s.rule;
        among = s.among;
        low = s.low;
        high = s.high;
        written = written_kept q h;
      }

  pub rule_kept : (q : ℕ) → q < k → row_rule d q ≡ row_rule c q
  rule_kept q h = row_written (written_kept q h) ∙ sym (row_written (stood.rows q h).written)

  pub stood_kept : Stood rs first d i k j
  stood_kept =
      record {
        from = stood.from;
        rows = rows_kept;
        top = λ q e. last_row.heads_from;
        all = λ x h. let o = stood.all x h in (o.0, record { low = o.1.low; same = rule_kept o.0 o.1.low ∙ o.1.same });
        apart = λ p q a b e. stood.apart p q a b (sym (rule_kept p a) ∙ e ∙ rule_kept q b);
      }

-- a row that was found: the next rule stands
up_to_next : {Q : ℕ → Type 0} {i : ℕ} → ((x : ℕ) → x < i → Q x) → Q i → (x : ℕ) → x < i + 1 → Q x
up_to_next {Q} {i} before here x h =
    ⊎_elim (λ (e : x ≡ i). subst Q (sym e) here) (λ (l : x < i). before x l) (eq-or-lt_of_le (omega (arith, h)))

pub stood_repeat :
    {rs : List Rule} {first : ℕ} {c : List ℕ} {i k j : ℕ} → Stood rs first c i k j → (row : ℕ) × RowHas c k (get_or rs i no_rule) row
    → Stood rs first c (i + 1) k j
stood_repeat {rs} {c = c} {k = k} stood here =
    record {
      from = stood.from;
      rows = stood.rows;
      top = stood.top;
      all = up_to_next {Q = λ x. (row : ℕ) × RowHas c k (get_or rs x no_rule) row} stood.all here;
      apart = stood.apart;
    }

-- a row that is new
module _
    {rs : List Rule}
    {first : ℕ}
    {c : List ℕ}
    {i k j : ℕ}
    (stood : Stood rs first c i k j)
    {r : Rule}
    (row : RowWritten c k j r)
    (among : Memᴰ r rs)
    (here : get_or rs i no_rule ≡ r)
    (new : (p : ℕ) → p < k → row_rule c p ≡ row_rule c k → ⊥)
  where
    further : (q : ℕ) → q < k → RowStands c rs first (end_from j r) q
    unfolding positives_from negatives_from end_from
    further q h =
        let s = stood.rows q h in
        record {
          place = s.place;
          rule = s.rule;
          among = s.among;
          low = s.low;
          high = omega (arith, s.high);
          written = s.written;
        }

    last : RowStands c rs first (end_from j r) k
    last = record { place = j; rule = r; among = among; low = stood.from; high = omega arith; written = row }

    later : {q : Rule} → (row : ℕ) × RowHas c k q row → (row : ℕ) × RowHas c (k + 1) q row
    later o = (o.0, record { low = omega (arith, o.1.low); same = o.1.same })

    one_of : (p : ℕ) → p < k + 1 → (p ≡ k) ⊎ (p < k)
    one_of p h = eq-or-lt_of_le (omega (arith, h))

    apart : (p q : ℕ) → (p ≡ k) ⊎ (p < k) → (q ≡ k) ⊎ (q < k) → row_rule c p ≡ row_rule c q → p ≡ q
    apart p q (inl a) (inl b) e = a ∙ sym b
    apart p q (inl a) (inr b) e = absurd (new q b (sym e ∙ ap (row_rule c) a))
    apart p q (inr a) (inl b) e = absurd (new p a (e ∙ ap (row_rule c) b))
    apart p q (inr a) (inr b) e = stood.apart p q a b e

    pub stood_new : Stood rs first c (i + 1) (k + 1) (end_from j r)
    unfolding positives_from negatives_from end_from
    stood_new =
        record {
          from = omega (arith, stood.from);
          rows = up_to_next {Q = λ q. RowStands c rs first (end_from j r) q} further last;
          top = λ q e. row.end;
          all =
              up_to_next {Q = λ x. (row : ℕ) × RowHas c (k + 1) (get_or rs x no_rule) row} (λ x h. later (stood.all x h))
              (k, record { low = omega arith; same = row_written row ∙ sym here });
          apart = λ p q a b e. apart p q (one_of p a) (one_of q b) e;
        }
