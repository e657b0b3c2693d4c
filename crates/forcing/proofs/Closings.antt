-- Where no pass adds anything, each forcing rule holds of the map, so it is closed; and what was added on the way is in every closed
-- map above the first, so it is the smallest.
use Prim.Native.Nat.{ℕ, ◌+◌, ◌-◌, ◌≤◌, ◌<◌}
use mathlib.Core.Path.{◌≡◌, refl, sym, ◌∙◌, subst}
use mathlib.Core.Bool.{Bool, true, false, cond, true≢false}
use Rattle.std.proofs.lemmas.List.Recursion.{is_count_by}
use mathlib.Core.List.{List}
use mathlib.Core.Logic.{⊎_elim}
use native.Mathlib.Omega.{arith}
use lib.Dec.{eqb}
use lib.ListN.{length, get_or, take}
use lib.Seq.{length-take-le, get_or-take}
use borrow.Author.Tests.{eq-eqb, ltb-true, ltb-false}
use Rattle.std.proofs.lemmas.List.Sums.{fails_before_first, passes_at_first}
use Rattle.std.specs.List.{position_or_len}
use Rattle.std.specs.Option.{option_eq}
use Rattle.rules.proofs.Tests.{T_eq, true_T}
use Rattle.rules.specs.Sum.{counted, tally}
use Rattle.rules.specs.Rule.{Rule, Within}
use Rattle.rules.specs.Map.{Map, side, undecided}
use Rattle.rules.specs.Forcing.{Closed}
use Rattle.rules.specs.Inner.Bytes.{MapBytes}
use Rattle.rules.proofs.Maps.{decided_within}
use Rattle.rules.proofs.Bytes.{side_at}
use Rattle.table.specs.Inner.Rows.{row_rule, table_rules, Laid}
use Rattle.table.proofs.Rows.{Standing, rule_stands, rule_mem, laid_fits}
use Rattle.weigh.specs.Inner.Step.{Outcome, Step, Till, Kept, Forces}
use Rattle.std.specs.Prelude.{Ok, Err, Option, Some, None, is_some, count_by, position, nat_lt, ◌==◌}
use Rattle.weigh.proofs.Bytes.{proper_map, equal?}
use Rattle.weigh.proofs.Steps.{step_same, quieter, step_joined}
use Rattle.forcing.specs.Inner.Heads.{Settled, SettlesAll}
use Rattle.forcing.specs.Inner.Support.{Counts, Backed, BacksAll}
use Rattle.forcing.specs.Inner.Ground.{ListsFounded, Drops, Unless}
use Rattle.forcing.specs.Inner.Rounds.{FirstWith, NoneWith, Forcing, BackedAll, FoundedAll}
use Rattle.forcing.proofs.Founding.{unfounded_out}
use Rattle.forcing.proofs.Counting.{one_told, only_once}

-- what is added so far is forced
pub record Closes (c : List ℕ) (n count : ℕ) (m m' : List ℕ) : Type 0 where
  pub kept : Kept n m m'
  pub forces : Forces (Closed (table_rules c count) n) (side n m) (side n m')

-- two steps of which the first adds nothing
pub after_same :
    (Good : Map → Type 0) (n : ℕ) (Q Q' : Map → Type 0) (m m' m'' : List ℕ) (q : Outcome) → Step Good n Q m m' (Ok false)
    → Step Good n Q' m' m'' q → Step Good n (λ M. Q M × Q' M) m m'' q
after_same Good n Q Q' m m' m'' (Err e) s t = step_joined Good n Q Q' m m' m'' false (Err e) s t.kept (λ _. t)
after_same Good n Q Q' m m' m'' (Ok q) s t = step_joined Good n Q Q' m m' m'' false (Ok q) s t.kept (λ _. t)

-- where no index is found there is no such byte
pub none_with : {v n : ℕ} (m : List ℕ) (r : Option ℕ) → is_some r ≡ false → FirstWith v n m r → NoneWith v n m
none_with m None e h = h
none_with m (Some i) e h = absurd (true≢false e)

-- nothing is what equals nothing
pub equals_none : (r : Option ℕ) → true ≡ option_eq eqb r None → is_some r ≡ false
equals_none None e = refl
equals_none (Some i) e = absurd (true≢false e)

-- where no byte is v no atom has that side
no_byte : {v n : ℕ} (m : List ℕ) → NoneWith v n m → {a : ℕ} → Within n a → side n m a ≡ v → ⊥
no_byte {v} {n} m none {a} w z = none (a - 1) (omega (arith, w.low, w.high)) (sym (side_at n m a w) ∙ z)

module _ (c : List ℕ) (n count : ℕ) where
  -- the counts were those of the map where the pass began
  pub backed :
      (m m' counts : List ℕ) (r : Outcome) → Counts (table_rules c count) n (side n m) counts → BacksAll c n count counts count m m' r
      → Forcing c n count (BackedAll c count) m m' r
  backed m m' counts r k s =
      quieter (Closed (table_rules c count) n) n
      (Till (λ k M. Counts (table_rules c count) n M counts → Backed (table_rules c count) (row_rule c k) M) 0 count) (BackedAll c count)
      m m' r
      (λ t i l h. t i l h k) s

  -- rule 2 makes undecided literals true, and there is none
  pub backed_whole : Laid c n count → (m : List ℕ) → MapBytes n m → NoneWith 0 n m → Forcing c n count (BackedAll c count) m m (Ok false)
  backed_whole laid m p none =
      step_same (Closed (table_rules c count) n) n (BackedAll c count) m p
      (λ k _ h a _ _ _ s l b z _. no_byte m none ((laid_fits c n count laid).literal (row_rule c k) (rule_mem c count k h) s l b) z)

  -- rule 2 speaks of atoms that are in, and there is none
  pub backed_idle : (m : List ℕ) → MapBytes n m → NoneWith 1 n m → Forcing c n count (BackedAll c count) m m (Ok false)
  backed_idle m p none =
      step_same (Closed (table_rules c count) n) n (BackedAll c count) m p (λ k _ h a t _ _ s l b z _. no_byte m none (decided_within (proper_map n m p) true a t) t)

  -- rule 2 speaks of atoms that one rule can give, and there is none
  pub backed_more :
      (m counts : List ℕ) → MapBytes n m → Counts (table_rules c count) n (side n m) counts → NoneWith 1 n counts
      → Forcing c n count (BackedAll c count) m m (Ok false)
  backed_more m counts p tells none =
      step_same (Closed (table_rules c count) n) n (BackedAll c count) m p
      (λ k _ h a t o _ s l b z _.
      let w = decided_within (proper_map n m p) true a t in
      no_byte counts none w (one_told (table_rules c count) n (side n m) counts tells a w t o))

  pub dropped :
      (m m' u : List ℕ) (r : Outcome) → ListsFounded c n count m u → Drops n u m (n + 1) m' r
      → Forcing c n count (FoundedAll c n count) m m' r
  dropped m m' u r l s =
      quieter (Closed (table_rules c count) n) n (Till (λ b. Unless (side n u) b 1 2) 1 (n + 1)) (FoundedAll c n count) m m' r quiet
      (s.step (table_rules c count) (unfounded_out c n count m u l))
    where
      quiet : Till (λ b. Unless (side n u) b 1 2) 1 (n + 1) (side n m) → FoundedAll c n count (side n m)
      quiet t a w o =
          ⊎_elim (l.listed a) (λ f. absurd (o (t a w.low (omega (arith, w.high)) f))) (equal? (side n u a) 1)

  -- where each rule is quiet the map is closed
  all_closed :
      Laid c n count → (m : List ℕ) → MapBytes n m
      → (Till (λ k. Settled (row_rule c k)) 0 count (side n m) × BackedAll c count (side n m)) × FoundedAll c n count (side n m)
      → Closed (table_rules c count) n (side n m)
  all_closed laid m p q =
      record {
        is_map = proper_map n m p;
        first = λ r b. (settled r (rule_stands c count r b)).first;
        second = λ a h r b t o. backs r (rule_stands c count r b) a h (only_once c n count laid a (side n m) r b t o) t;
        third = λ r b. (settled r (rule_stands c count r b)).third;
        fourth = q.1;
      }
    where
      settled : (r : Rule) → Standing c 0 count r → Settled r (side n m)
      settled r s = subst (λ (x : Rule). Settled x (side n m)) (sym s.same) (q.0.0 s.row s.among.low s.among.high)

      backs : (r : Rule) → Standing c 0 count r → Backed (table_rules c count) r (side n m)
      backs r s =
          subst (λ (x : Rule). Backed (table_rules c count) x (side n m)) (sym s.same)
          (q.0.1 s.row s.among.low s.among.high)

  Settling : Map → Type 0
  Settling = Till (λ k. Settled (row_rule c k)) 0 count

  -- the first two passes
  pub round_second :
      (m m₁ m₂ : List ℕ) (q : Outcome) → Forcing c n count (BackedAll c count) m m₁ (Ok false)
      → Forcing c n count (FoundedAll c n count) m₁ m₂ q → Forcing c n count (λ M. BackedAll c count M × FoundedAll c n count M) m m₂ q
  round_second m m₁ m₂ q t u = after_same (Closed (table_rules c count) n) n (BackedAll c count) (FoundedAll c n count) m m₁ m₂ q t u

  -- a round: three passes, or the first of them that adds something
  pub round_whole :
      Laid c n count → (m m₁ m₂ m₃ : List ℕ) (q : Outcome) → MapBytes n m → Forcing c n count (BackedAll c count) m m₁ (Ok false)
      → Forcing c n count (FoundedAll c n count) m₁ m₂ (Ok false) → SettlesAll c n count m₂ m₃ q
      → Forcing c n count (Closed (table_rules c count) n) m m₃ q
  unfolding Settling
  round_whole laid m m₁ m₂ m₃ q p t u s =
      quieter (Closed (table_rules c count) n) n (λ M. (BackedAll c count M × FoundedAll c n count M) × Settling M)
      (Closed (table_rules c count) n) m m₃ q
      (λ x. all_closed laid m p ((x.1, x.0.0), x.0.1))
      (after_same (Closed (table_rules c count) n) n (λ M. BackedAll c count M × FoundedAll c n count M) Settling m m₂ m₃ q
      (round_second m m₁ m₂ (Ok false) t u) s)

-- the first of the n bytes that is v
module _ (v n : ℕ) (m : List ℕ) (room : n ≤ length m) where
  abbrev at : ℕ
  at = position_or_len (λ x. x == v) (take n m)

  -- a byte before it is another
  other : (i : ℕ) → i < n → i < at → get_or m i 0 ≡ v → ⊥
  other i l h z =
      true≢false
      (sym (eq-eqb (get_or (take n m) i 0) v (get_or-take n m i 0 l ∙ z)) ∙ fails_before_first (λ x. x == v) (take n m) i 0 h)

  found : (b : Bool) → nat_lt at (length (take n m)) ≡ b → FirstWith v n m (cond b (Some at) None)
  found true t =
      let short : at < length (take n m) = ltb-true at (length (take n m)) t in
      let inside : at < n = omega (arith, short, length-take-le n m room) in
      record {
        inside = inside;
        lower = λ i h. other i (omega arith) h;
        here = sym (get_or-take n m at 0 inside) ∙ T_eq (true_T (passes_at_first (λ x. x == v) (take n m) 0 short));
      }
  found false t =
      let long : length (take n m) ≤ at = ltb-false at (length (take n m)) t in
      λ i h. other i h (omega (arith, h, long, length-take-le n m room))

  pub first_found : FirstWith v n m (position (λ x. x == v) (take n m))
  first_found = found (nat_lt at (length (take n m))) refl

-- the zero bytes are counted
one_or_none : (b : Bool) (k : ℕ) → counted b 1 + k ≡ cond b (1 + k) k
one_or_none true k = refl
one_or_none false k = omega arith

zeros_same : (xs : List ℕ) → tally (λ b. eqb b 0) (λ _. 1) xs ≡ count_by (λ x. x == 0) xs
unfolding tally
zeros_same =
    is_count_by (tally (λ b. eqb b 0) (λ _. 1)) (λ x. x == 0) refl (λ x xs. one_or_none (eqb x 0) (tally (λ b. eqb b 0) (λ _. 1) xs))

pub zeros_undecided : (n : ℕ) (m : List ℕ) → count_by (λ x. x == 0) (take n m) ≡ undecided n m
unfolding undecided
zeros_undecided n m = sym (zeros_same (take n m))
