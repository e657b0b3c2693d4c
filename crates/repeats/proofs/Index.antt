-- At first nothing is entered; and rows are found by their rules, so they are found in every table that has the same rules in them.
use Rattle.std.proofs.Common.{◌≡◌, ℕ, ◌%◌, ◌<◌, ◌≤◌, List, get_or, replicate, sym, subst, ⊎_elim, arith}
use lib.ListN.{length-replicate, get_or-replicate, get_or-eq_default}
use Rattle.rules.specs.Limits.{rules_most}
use Rattle.rules.specs.Rule.{Rule}
use Rattle.rules.proofs.Tests.{below?}
use Rattle.table.specs.Inner.Rows.{row_rule}
use Rattle.repeats.specs.Inner.Marks.{slot_count, rule_mark}
use Rattle.repeats.specs.declared.slots.Kept.{Kept}
use Rattle.repeats.specs.Inner.Slots.{Reaches, Indexed, nothing_kept}

zeros : (n x : ℕ) → ◌≡◌ {A = ℕ} (get_or (replicate n 0) x 0) 0
zeros n x =
    ⊎_elim (λ (l : x < n). get_or-replicate n x 0 0 l)
    (λ (l : n ≤ x). get_or-eq_default (replicate n 0) 0 (omega (arith, length-replicate {A = ℕ} n 0)))
    (below? x n)

pub index_begin : (c : List ℕ) → Indexed c nothing_kept 0
unfolding nothing_kept
index_begin c =
    record {
      slots_long = length-replicate slot_count 0;
      links_long = length-replicate rules_most 0;
      top = λ x. omega (arith, zeros slot_count x);
      down = λ p h. absurd (omega (arith, h));
      entered = λ p h. absurd (omega (arith, h));
    }

pub index_kept :
    {c d : List ℕ} {kept : Kept} {k : ℕ} → ((q : ℕ) → q < k → row_rule d q ≡ row_rule c q) → Indexed c kept k → Indexed d kept k
index_kept {kept = kept} same index =
    record {
      slots_long = index.slots_long;
      links_long = index.links_long;
      top = index.top;
      down = index.down;
      entered =
          λ p h.
          subst (λ (r : Rule). Reaches kept.links p (get_or kept.slots (rule_mark r % slot_count) 0)) (sym (same p h)) (index.entered p h);
    }
