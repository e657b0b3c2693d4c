-- Two rows have the same rule exactly when their words tell the same: each list of a rule is a run of pairs, two runs are the same list
-- when they are as long and the same pair by pair, and heads weigh 1, so that their atoms are all there is to tell.
use Rattle.std.proofs.Common.{◌≡◌, ℕ, zero, suc, ◌+◌, ◌-◌, ◌<◌, ◌≤◌, Bool, false, List, ◌∷◌, length, sym, refl, ap, ◌∙◌, ap₂, ⊎_elim, arith}
use Rattle.rules.specs.Rule.{Rule, weighted, atoms_of, ones}
use Rattle.rules.specs.Inner.Decides.{Decides}
use Rattle.rules.proofs.Tests.{below?}
use Rattle.rules.proofs.Decides.{decides_as}
use Rattle.rules.proofs.Same.{rule_made}
use Rattle.table.specs.Inner.Words.{pair_atom, pair_weight, pair_at, pairs_from, seg, seg_atoms}
use Rattle.table.specs.Inner.Rows.{kind_at, need_at, heads_at, positives_at, negatives_at, end_at, row_rule}
use Rattle.table.proofs.parts.Laws.{seg_length}
use Rattle.repeats.specs.Inner.Same.{SameRuns, Filled}

-- places that were read are as far apart as those that stand there
pub as_far :
    {a b d e p q r s : ℕ} → p ≡ a → q ≡ b → r ≡ d → s ≡ e → p - q ≡ r - s → a - b ≡ d - e
as_far f g h k same = ap₂ ◌-◌ (sym f) (sym g) ∙ same ∙ ap₂ ◌-◌ h k

-- two runs that are as long and the same pair by pair
record Alike (c : List ℕ) (from to other end : ℕ) : Type 0 where
  long : to - from ≡ end - other
  runs : SameRuns c from to other

module _ (c : List ℕ) where
  -- two pairs that are the same, at places that are written another way
  pair_there : {a b d e : ℕ} → a ≡ d → b ≡ e → pair_at c a ≡ pair_at c b → pair_at c d ≡ pair_at c e
  pair_there p q same = sym (ap (pair_at c) p) ∙ same ∙ ap (pair_at c) q

  pairs_of_runs :
      (n from other : ℕ) → ((x : ℕ) → x < n → pair_at c (from + x) ≡ pair_at c (other + x)) → pairs_from c n from ≡ pairs_from c n other
  unfolding pairs_from
  pairs_of_runs zero from other same = refl
  pairs_of_runs (suc n) from other same =
      ap₂ ◌∷◌ (pair_there (omega arith) (omega arith) (same 0 (omega arith)))
      (pairs_of_runs n (suc from) (suc other) (λ x h. pair_there (omega arith) (omega arith) (same (suc x) (omega arith))))

  runs_of_pairs :
      (n from other : ℕ) → pairs_from c n from ≡ pairs_from c n other → (x : ℕ) → x < n → pair_at c (from + x) ≡ pair_at c (other + x)
  unfolding pairs_from
  runs_of_pairs zero from other same x h = absurd (omega arith)
  runs_of_pairs (suc n) from other same zero h =
      let first : pair_at c from ≡ pair_at c other = cc in pair_there (omega arith) (omega arith) first
  runs_of_pairs (suc n) from other same (suc x) h =
      let rest : pairs_from c n (suc from) ≡ pairs_from c n (suc other) = cc in
      pair_there (omega arith) (omega arith) (runs_of_pairs n (suc from) (suc other) rest x (omega arith))

  pairs_weigh_one :
      (n from : ℕ) → ((j : ℕ) → from ≤ j → j < from + n → pair_weight c j ≡ 1) → pairs_from c n from ≡ ones (atoms_of (pairs_from c n from))
  unfolding pairs_from
  pairs_weigh_one zero from one = refl
  pairs_weigh_one (suc n) from one =
      ap₂ ◌∷◌ (ap (weighted (pair_atom c from)) (one from (omega arith) (omega arith)))
      (pairs_weigh_one n (suc from) (λ j l h. one j (omega arith) (omega arith)))

  -- heads weigh 1, so they are told by their atoms
  heads_as_ones : (i : ℕ) → Filled c i → seg c (heads_at c i) (positives_at c i) ≡ ones (seg_atoms c (heads_at c i) (positives_at c i))
  unfolding seg
  heads_as_ones i filled =
      pairs_weigh_one (positives_at c i - heads_at c i) (heads_at c i) (λ j l h. filled.ones j l (omega arith))

  -- runs that are alike are the same list, and back
  seg_of_runs :
      (from to other end : ℕ) → to - from ≡ end - other → SameRuns c from to other → seg c from to ≡ seg c other end
  unfolding seg
  seg_of_runs from to other end long same =
      pairs_of_runs (to - from) from other same ∙ ap (λ (n : ℕ). pairs_from c n other) long

  runs_of_seg : (from to other end : ℕ) → seg c from to ≡ seg c other end → Alike c from to other end
  unfolding seg
  runs_of_seg from to other end same =
      let long : to - from ≡ end - other = sym (seg_length c from to) ∙ ap length same ∙ seg_length c other end in
      record {
        long = long;
        runs = runs_of_pairs (to - from) from other (same ∙ ap (λ (n : ℕ). pairs_from c n other) (sym long));
      }

  -- a run of two parts that are alike
  join :
      {from middle to other place end : ℕ} → (from ≤ middle) × (middle ≤ to) × (other ≤ place) × (place ≤ end)
      → Alike c from middle other place → Alike c middle to place end → Alike c from to other end
  join {from} {middle} order one two =
      let e = one.long in
      record {
        long = omega (arith, two.long);
        runs =
            λ x h.
            ⊎_elim (λ (l : x < middle - from). one.runs x l)
            (λ (l : middle - from ≤ x). pair_there (omega arith) (omega arith) (two.runs (x - (middle - from)) (omega arith)))
            (below? x (middle - from));
      }

  -- a part of runs that are the same
  part :
      (from to other first last place end : ℕ) → (from ≤ first) × (first ≤ last) × (last ≤ to) × (other ≤ place) × (place ≤ end)
      → first - from ≡ place - other → last - from ≡ end - other → SameRuns c from to other → seg c first last ≡ seg c place end
  part from to other first last place end order begins ends same =
      seg_of_runs first last place end (omega arith)
      (λ x h. pair_there (omega arith) (omega arith) (same ((first - from) + x) (omega arith)))

-- two rows whose words tell the same rule
pub record SameParts (c : List ℕ) (i k : ℕ) : Type 0 where
  pub kind : kind_at c i ≡ kind_at c k
  pub need : need_at c i ≡ need_at c k
  pub positives : positives_at c i - heads_at c i ≡ positives_at c k - heads_at c k
  pub negatives : negatives_at c i - heads_at c i ≡ negatives_at c k - heads_at c k
  pub count : end_at c i - heads_at c i ≡ end_at c k - heads_at c k
  pub runs : SameRuns c (heads_at c i) (end_at c i) (heads_at c k)

module _ (c : List ℕ) (i k : ℕ) (one : Filled c i) (two : Filled c k) where
  parts_of_rule : row_rule c i ≡ row_rule c k → SameParts c i k
  parts_of_rule same =
      let heads : Alike c (heads_at c i) (positives_at c i) (heads_at c k) (positives_at c k) =
      runs_of_seg c _ _ _ _ (heads_as_ones c i one ∙ ap (λ (r : Rule). ones r.heads) same ∙ sym (heads_as_ones c k two)) in
      let most : Alike c (heads_at c i) (negatives_at c i) (heads_at c k) (negatives_at c k) =
      join c (omega arith) heads (runs_of_seg c _ _ _ _ (ap (λ (r : Rule). r.pos) same)) in
      let all : Alike c (heads_at c i) (end_at c i) (heads_at c k) (end_at c k) =
      join c (omega arith) most (runs_of_seg c _ _ _ _ (ap (λ (r : Rule). r.neg) same)) in
      record {
        kind = ap (λ (r : Rule). r.kind) same;
        need = ap (λ (r : Rule). r.need) same;
        positives = heads.long;
        negatives = most.long;
        count = all.long;
        runs = all.runs;
      }

  rule_of_parts : SameParts c i k → row_rule c i ≡ row_rule c k
  rule_of_parts parts =
      rule_made parts.kind (ap atoms_of (part c _ _ _ _ _ _ _ (omega arith) (omega arith) parts.positives parts.runs)) parts.need
      (part c _ _ _ _ _ _ _ (omega arith) parts.positives parts.negatives parts.runs)
      (part c _ _ _ _ _ _ _ (omega arith) parts.negatives parts.count parts.runs)

  pub rule_differs : (SameParts c i k → ⊥) → Decides false (row_rule c i ≡ row_rule c k)
  rule_differs apart = record { decides = λ same. apart (parts_of_rule same) }

  -- where all else is the same, the pairs tell
  pub rule_told :
      (b : Bool) → (SameRuns c (heads_at c i) (end_at c i) (heads_at c k) → SameParts c i k)
      → Decides b (SameRuns c (heads_at c i) (end_at c i) (heads_at c k)) → Decides b (row_rule c i ≡ row_rule c k)
  rule_told b parts = decides_as b (λ runs. rule_of_parts (parts runs)) (λ same. (parts_of_rule same).runs)
