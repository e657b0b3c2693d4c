-- Pressing one pair after another presses the run: a pair that is undecided was so where the run began, so it has to be on the
-- side that it is put on. Two runs are a body.
use Prim.Native.Nat.{ℕ, ◌+◌, ◌≤◌, ◌<◌}
use mathlib.Core.Path.{◌≡◌, sym, ◌∙◌, ap, subst}
use mathlib.Core.Bool.{Bool, true, false, not}
use mathlib.Core.Logic.{⊎_elim}
use mathlib.Core.List.{List, Memᴰ}
use native.Mathlib.Omega.{arith}
use Rattle.rules.specs.Rule.{Rule, Weighted}
use Rattle.rules.specs.Map.{Map, side, want, ◌⊑◌}
use Rattle.rules.specs.Forcing.{Closed}
use Rattle.rules.specs.Inner.Bytes.{MapBytes}
use Rattle.rules.proofs.Maps.{sides, want_decided}
use Rattle.table.specs.Inner.Words.{pair_atom, pair_weight, pair_at}
use Rattle.table.specs.Inner.Rows.{row_rule, from, to}
use Rattle.table.proofs.Words.{PairFound, seg_found, seg_mem}
use Rattle.table.proofs.Rows.{body_seg}
use Rattle.std.specs.Prelude.{Ok, Err}
use Rattle.weigh.specs.Inner.Step.{Decided, Outcome, Till, Puts}
use Rattle.weigh.specs.Inner.Press.{PairPressed, PairDue, PairAsks, PressesPair, Presses, aim, Pressed, Due, PressesBody}
use Rattle.weigh.specs.declared.Clash.{Clash}
use Rattle.weigh.proofs.Bytes.{proper_map}
use Rattle.weigh.proofs.Steps.{after, kept_trans, kept_put, concludes_on, quieter, step_joined, steps_more, step_put, clash_any}

-- what is undecided in a map was so in a map below it
pub undecided_back : (M M' : Map) (a : ℕ) → M a ≤ 2 → M ⊑ M' → M' a ≡ 0 → M a ≡ 0
undecided_back M M' a h f z =
    ⊎_elim
    (λ e. e)
    (⊎_elim (λ e. absurd (want_decided true (sym (f.keeps true a e) ∙ z)))
    (λ e. absurd (want_decided false (sym (f.keeps false a e) ∙ z))))
    (sides (M a) h true)

module _ (c : List ℕ) (n j least v : ℕ) (m : List ℕ) (asks : PairAsks c n j v m) where
  pub pressed_put :
      (w a x : ℕ) (m' : List ℕ) (r : Outcome) → w ≡ pair_weight c j → least ≤ w → a ≡ pair_atom c j → x ≡ side n m a → x ≡ 0
      → Puts n m a v m' r → PressesPair c n j least v m m' r
  pressed_put w a x m' r ew h ea ex z s =
      record {
        kept = kept_put n m (pair_atom c j) v asks.proper asks.pair.within asks.decided m' r puts;
        step =
            λ P due.
            quieter (Closed P n) n (λ M. M (pair_atom c j) ≡ v) (PairPressed c least j) m m' r
            (λ e k o. omega (arith, sym e ∙ o, asks.decided.low))
            (step_put (Closed P n) n m (pair_atom c j) v asks.proper asks.pair.within asks.decided
            (due (omega arith) here) m' r puts);
      }
    where
      puts : Puts n m (pair_atom c j) v m' r
      puts = subst (λ (b : ℕ). Puts n m b v m' r) ea s

      here : side n m (pair_atom c j) ≡ 0
      here = sym (ap (side n m) ea) ∙ sym ex ∙ z

module _ (c : List ℕ) (n f t least v : ℕ) (m : List ℕ) (proper : MapBytes n m) where
  pub run_more :
      (j : ℕ) (m' m'' : List ℕ) (r : Bool) (q : Outcome) → f ≤ j → j < t → Presses c n f t least v m j m' (Ok r)
      → PressesPair c n j least v m' m'' q → Presses c n f t least v m (j + 1) m'' (after r q)
  run_more j m' m'' r q l h s p =
      record {
        kept = kept_trans n m m' m'' s.kept p.kept;
        step =
            λ P due.
            steps_more (Closed P n) n (PairPressed c least) f j m m' m'' r q (s.step P due) p.kept
            (λ up. p.step P
            (λ k z. concludes_on (Closed P n) up
            (due j l h k (undecided_back (side n m) (side n m') (pair_atom c j) ((proper_map n m proper).sides (pair_atom c j)) up z))));
      }

  -- a clash in a pair is one in the run
  pub run_clash :
      (j : ℕ) (m' m'' : List ℕ) (r : Bool) {e : Clash} → f ≤ j → j < t → Presses c n f t least v m j m' (Ok r)
      → PressesPair c n j least v m' m'' (Err e) → Presses c n f t least v m t m'' (Err e)
  run_clash j m' m'' r {e} l h s p =
      let q : Presses c n f t least v m (j + 1) m'' (Err e) = run_more j m' m'' r (Err e) l h s p in
      record {
        kept = q.kept;
        step = λ P due. clash_any (Closed P n) n (Till (PairPressed c least) f (j + 1)) (Till (PairPressed c least) f t) m m'' (q.step P due);
      }

pub want_sided : (s : Bool) → Decided (want s)
want_sided true = record { low = omega arith; high = omega arith }
want_sided false = record { low = omega arith; high = omega arith }

module _ (c : List ℕ) (n i least : ℕ) where
  -- the pairs of both runs are the literals of the body
  pressed :
      (M : Map) → ((s : Bool) → Till (PairPressed c least) (from c i s) (to c i s) M) → Pressed (row_rule c i) least M
  pressed M t s l m k z =
      let f : PairFound c (from c i s) (to c i s) l = seg_found c (from c i s) (to c i s) l (subst (Memᴰ l) (body_seg c i s) m) in
      t s f.at f.among.low f.among.high (subst (λ (x : Weighted). least ≤ x.weight) f.same k)
      (subst (λ (x : Weighted). M x.atom ≡ 0) f.same z)

  pair_due :
      (P : List Rule) (truth : Bool) (M : Map) → Due P n (row_rule c i) least truth M → (s : Bool) (k : ℕ) → from c i s ≤ k
      → k < to c i s → PairDue P c n least (aim truth s) k M
  pair_due P truth M due s k l h =
      due s (pair_at c k)
      (subst (Memᴰ (pair_at c k)) (sym (body_seg c i s)) (seg_mem c (from c i s) (to c i s) k (record { low = l; high = h })))

  module _ (truth : Bool) (m : List ℕ) (proper : MapBytes n m) where
    due_on :
        (P : List Rule) (m' : List ℕ) → side n m ⊑ side n m' → Due P n (row_rule c i) least truth (side n m)
        → Due P n (row_rule c i) least truth (side n m')
    due_on P m' up due s l b k z =
        concludes_on (Closed P n) up
        (due s l b k (undecided_back (side n m) (side n m') l.atom ((proper_map n m proper).sides l.atom) up z))

    Runs : Bool → Map → Type 0
    Runs s = Till (PairPressed c least) (from c i s) (to c i s)

    -- one run after the other
    joined :
        (m' m'' : List ℕ) (r : Bool) (q : Outcome)
        → Presses c n (from c i true) (to c i true) least (want truth) m (to c i true) m' (Ok r)
        → Presses c n (from c i false) (to c i false) least (want (not truth)) m' (to c i false) m'' q
        → PressesBody c n i least truth m m'' (after r q)
    unfolding Runs
    joined m' m'' r q s t =
        record {
          kept = kept_trans n m m' m'' s.kept t.kept;
          step =
              λ P due.
              quieter (Closed P n) n (λ M. Runs true M × Runs false M) (Pressed (row_rule c i) least) m m'' (after r q)
              (λ b. pressed (side n m) (two b))
              (step_joined (Closed P n) n (Runs true) (Runs false) m m' m'' r q
              (s.step P (pair_due P truth (side n m) due true)) t.kept
              (λ up. t.step P (pair_due P truth (side n m') (due_on P m' up due) false)));
        }
      where
        two :
            Runs true (side n m) × Runs false (side n m) → (s : Bool)
            → Till (PairPressed c least) (from c i s) (to c i s) (side n m)
        two b true = b.0
        two b false = b.1

    pub body_pressed :
        (m' m'' : List ℕ) (r : Bool) (q : Outcome) {f k t v w : ℕ} → f ≡ from c i true → k ≡ to c i true → t ≡ to c i false
        → v ≡ want truth → w ≡ want (not truth) → Presses c n f k least v m k m' (Ok r) → Presses c n k t least w m' t m'' q
        → PressesBody c n i least truth m m'' (after r q)
    body_pressed m' m'' r q {f} {k} {t} {v} {w} ef ek et ev ew s p = joined m' m'' r q (rw (ef, ek, ev) at s) (rw (ek, et, ew) at p)

    -- a clash in the first run is one in the body
    pub body_clash :
        (m' : List ℕ) {e : Clash} {f k v : ℕ} → f ≡ from c i true → k ≡ to c i true → v ≡ want truth
        → Presses c n f k least v m k m' (Err e) → PressesBody c n i least truth m m' (Err e)
    unfolding Runs
    body_clash m' {e} {f} {k} {v} ef ek ev s =
        let p = rw (ef, ek, ev) at s in
        record {
          kept = p.kept;
          step = λ P due. clash_any (Closed P n) n (Runs true) (Pressed (row_rule c i) least) m m' (p.step P (pair_due P truth (side n m) due true));
        }
