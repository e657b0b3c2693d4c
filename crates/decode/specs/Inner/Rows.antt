-- "A rule is one of four kinds, each with its own head part." "Each rule has a need and each body literal a weight." The words of a
-- table after rules were written, from a row and from a pair on.
use Rattle.std.specs.Prelude.{ℕ, ◌+◌, ◌*◌, ◌≤◌, ◌<◌, ◌≡◌, Bool, length, get_or, set}
use mathlib.Core.List.{List, [], ◌∷◌, Memᴰ}
use Rattle.rules.specs.Limits.{number_most}
use Rattle.rules.specs.Rule.{Rule, Sheet, kind_number, choice_rule, ones, no_rule}
use Rattle.rules.specs.declared.kind.Kind.{Kind}
use Rattle.numbers.specs.declared.Span.{Span}
use Rattle.sheet.specs.Shown.Encode.{rules_size}
use Rattle.table.specs.Inner.Words.{row_width, pair_width, seg}
use Rattle.table.specs.Inner.Rows.{kind_at, need_at, heads_at, positives_at, negatives_at, end_at, row_rule}
use Rattle.repeats.specs.Inner.Marks.{atoms_mark, body_mark, rule_mark}
use Rattle.decode.specs.Inner.Words.{with_words}
use Rattle.decode.specs.Inner.Taken.{Body, body_taken, body_length, weighs, rest_taken, need_taken, rule_taken, rule_past}
use Rattle.decode.specs.Inner.Pairs.{with_pairs}
use Rattle.decode.specs.declared.pairs.Reached.{Reached}
use Rattle.decode.specs.declared.rows.BodyEnds.{BodyEnds}

-- where the positive literals of a rule begin, whose heads begin at pair j, where the negated ones begin, and where the rule ends
unfoldable pub positives_from : ℕ → Rule → ℕ
positives_from j r = j + length r.heads

unfoldable pub negatives_from : ℕ → Rule → ℕ
negatives_from j r = positives_from j r + length r.pos

unfoldable pub end_from : ℕ → Rule → ℕ
end_from j r = negatives_from j r + length r.neg

unfoldable pub with_body : List ℕ → ℕ → Rule → List ℕ
with_body c j r =
    with_pairs (with_pairs (with_pairs c j (ones r.heads)) (positives_from j r) r.pos) (negatives_from j r) r.neg

-- kind, need, heads at, positives at, negatives at
unfoldable pub with_row : List ℕ → ℕ → ℕ → ℕ → ℕ → ℕ → ℕ → List ℕ
with_row c i kind need heads positives negatives =
    with_words c (row_width * i) (kind ∷ need ∷ heads ∷ positives ∷ negatives ∷ [])

unfoldable pub with_rule : List ℕ → ℕ → ℕ → Rule → List ℕ
with_rule c i j r =
    with_row (with_body c j r) i (kind_number r.kind) r.need j (positives_from j r) (negatives_from j r)

-- the row after a rule's says where the rule ends
unfoldable pub with_end : List ℕ → ℕ → ℕ → List ℕ
with_end c i j = set c (row_width * i + 2) j

unfoldable pub with_last : List ℕ → ℕ → ℕ → Rule → List ℕ
with_last c i j r = with_end (with_rule c i j r) (i + 1) (end_from j r)

-- row i of a table stands for the rule r, whose pairs begin at j
pub record RowWritten (c : List ℕ) (i j : ℕ) (r : Rule) : Type 0 where
  pub kind : kind_at c i ≡ r.kind
  pub need : need_at c i ≡ r.need
  pub heads_from : heads_at c i ≡ j
  pub pos_from : positives_at c i ≡ positives_from j r
  pub neg_from : negatives_at c i ≡ negatives_from j r
  pub end : end_at c i ≡ end_from j r
  pub heads : seg c j (positives_from j r) ≡ ones r.heads
  pub pos : seg c (positives_from j r) (negatives_from j r) ≡ r.pos
  pub neg : seg c (negatives_from j r) (end_from j r) ≡ r.neg

-- the rows from i on, with the row after the last one, end before the pairs from j on, and these before the end of the table
pub record TableRoom (c : List ℕ) (i j : ℕ) (rs : List Rule) : Type 0 where
  pub rows : row_width * (i + length rs + 1) ≤ pair_width * j
  pub pairs : pair_width * (j + rules_size rs) ≤ length c
  pub few : j + rules_size rs ≤ number_most

-- the words of a row are numbers of a sheet
pub record RowAsks (c : List ℕ) (i need heads positives negatives : ℕ) : Type 0 where
  pub room : row_width * (i + 1) ≤ length c
  pub need_most : need ≤ number_most
  pub order : (heads ≤ positives) × (positives ≤ negatives) × (negatives ≤ number_most)

-- there is room for the pairs of a body
pub record BodyAsks (s : List ℕ) (weighs : Bool) (at : ℕ) (c : List ℕ) (j : ℕ) : Type 0 where
  pub room : pair_width * (j + body_length (body_taken s weighs at)) ≤ length c

abbrev pub with_literals : List ℕ → ℕ → Body → List ℕ
with_literals c j body = with_pairs (with_pairs c j body.pos) (j + length body.pos) body.neg

-- the body at a place was written from pair j on; and the mark before, with it
pub record BodyPut (s : List ℕ) (weighs : Bool) (at : ℕ) (c : List ℕ) (j before : ℕ) (c' : List ℕ) (ends : BodyEnds) : Type 0 where
  pub code : c' ≡ with_literals c j (body_taken s weighs at)
  pub negatives : ends.negatives ≡ j + length (body_taken s weighs at).pos
  pub end : ends.end.pair ≡ j + body_length (body_taken s weighs at)
  pub next : ends.end.next ≡ (body_taken s weighs at).next
  pub mark : ends.end.mark ≡ body_mark before weighs (body_taken s weighs at).pos (body_taken s weighs at).neg

-- what a rule needs whose heads stand from one pair on, and whose body follows its bound: room, and numbers of a sheet
pub record RestAsks (s : List ℕ) (kind : Kind) (bound : Span) (c : List ℕ) (i heads j : ℕ) : Type 0 where
  pub row : row_width * (i + 1) ≤ length c
  pub order : heads ≤ j
  pub pairs : pair_width * (j + body_length (rest_taken s kind bound)) ≤ length c
  pub few : j + body_length (rest_taken s kind bound) ≤ number_most
  pub bound_most : bound.value ≤ number_most

pub record RestPut (s : List ℕ) (kind : Kind) (bound : Span) (c : List ℕ) (i heads j before : ℕ) (c' : List ℕ) (end : Reached) : Type 0 where
  pub code :
      c'
      ≡ with_row (with_literals c j (rest_taken s kind bound)) i (kind_number kind)
      (need_taken kind bound.value (body_length (rest_taken s kind bound)))
      heads
      j
      (j + length (rest_taken s kind bound).pos)
  pub pair : end.pair ≡ j + body_length (rest_taken s kind bound)
  pub place : end.next ≡ (rest_taken s kind bound).next
  pub mark :
      end.mark
      ≡ atoms_mark (body_mark before (weighs kind) (rest_taken s kind bound).pos (rest_taken s kind bound).neg)
      (need_taken kind bound.value (body_length (rest_taken s kind bound)) ∷ [])

-- there is room for the rule at a place
abbrev pub RuleAsks : List ℕ → ℕ → List ℕ → ℕ → ℕ → Type 0
RuleAsks s at c i j = TableRoom c i j (rule_taken s at ∷ [])

pub record RulePut (s : List ℕ) (at : ℕ) (c : List ℕ) (i j : ℕ) (c' : List ℕ) (end : Reached) : Type 0 where
  pub code : c' ≡ with_rule c i j (rule_taken s at)
  pub pair : end.pair ≡ end_from j (rule_taken s at)
  pub place : end.next ≡ rule_past s at
  pub mark : end.mark ≡ rule_mark (rule_taken s at)

-- the first pair, past the rows of so many rules, of the compute lists, and the row after them
unfoldable pub first_pair : ℕ → ℕ
first_pair count = 3 * (count + 2)

-- the compute lists as the body of a choice with no heads
abbrev pub lists_rule : Sheet → Rule
lists_rule sh = choice_rule [] sh.compute_in sh.compute_out

-- row q stands for one of these rules, and its pairs lie between two places
pub record RowStands (c : List ℕ) (rs : List Rule) (first last q : ℕ) : Type 0 where
  pub place : ℕ
  pub rule : Rule
  pub among : Memᴰ rule rs
  pub low : first ≤ place
  pub high : end_from place rule ≤ last
  pub written : RowWritten c q place rule

-- this row is before k and has this rule
pub record RowHas (c : List ℕ) (k : ℕ) (r : Rule) (row : ℕ) : Type 0 where
  pub low : row < k
  pub same : row_rule c row ≡ r

-- the first i of these rules stand in the first k rows, each once, with pairs from a first one to before pair j
pub record Stood (rs : List Rule) (first : ℕ) (c : List ℕ) (i k j : ℕ) : Type 0 where
  pub from : first ≤ j
  pub rows : (q : ℕ) → q < k → RowStands c rs first j q
  pub top : (q : ℕ) → q + 1 ≡ k → heads_at c k ≡ j
  pub all : (x : ℕ) → x < i → (row : ℕ) × RowHas c k (get_or rs x no_rule) row
  pub apart : (p q : ℕ) → p < k → q < k → row_rule c p ≡ row_rule c q → p ≡ q
