-- Gathering U: what a rule gives from atoms of U is in every set that holds what U must hold, so U stays below each of them; and
-- where nothing is added in a sweep, U holds it all. The atoms that are not out are one such set, so none of U is out.
use Prim.Native.Nat.{ℕ, ◌+◌, ◌≤◌, ◌<◌}
use mathlib.Core.Path.{◌≡◌, sym, ◌∙◌, ap, subst}
use mathlib.Core.Bool.{Bool, true, false}
use mathlib.Core.Logic.{⊎_elim}
use mathlib.Core.List.{List, Memᴰ}
use native.Mathlib.Omega.{arith}
use lib.Dec.{T}
use Rattle.rules.specs.Rule.{Weighted, Within, body}
use Rattle.rules.specs.Stable.{value}
use Rattle.rules.specs.Map.{Map, side, is, isnt, ◌⊑◌}
use Rattle.rules.specs.Inner.Bytes.{MapBytes}
use Rattle.rules.proofs.Tests.{eq_T, T_eq}
use Rattle.rules.proofs.Value.{by, value_mono}
use Rattle.table.specs.Inner.Words.{pair_atom}
use Rattle.table.specs.Inner.Rows.{heads_at, positives_at, need_at, row_rule, Row}
use Rattle.table.proofs.Words.{AtomFound, atoms_listed, atoms_has}
use Rattle.weigh.specs.Inner.Step.{Concludes, Decided, Kept, Outcome, Step, Till}
use Rattle.std.specs.Prelude.{Ok, Err}
use Rattle.weigh.specs.declared.Clash.{Clash}
use Rattle.weigh.proofs.Bytes.{equal?}
use Rattle.weigh.proofs.Steps.{after, kept_refl, kept_trans, kept_put, concludes_on, step_same, quieter, steps_more, step_put, clash_any}
use Rattle.forcing.specs.Inner.Ground.{PutsUnless, Unless, Grounding, Grounded, Full, Lacks, GroundsHeads, GroundsRule}
use Rattle.forcing.proofs.HeadScans.{Sofar, scan_end}

pub sided_in : Decided 1
sided_in = record { low = omega arith; high = omega arith }

pub sided_out : Decided 2
sided_out = record { low = omega arith; high = omega arith }

-- an atom is put unless it has a given side
module _ (n : ℕ) (m : List ℕ) (a given v : ℕ) (w : List ℕ) where
  module _ (p : MapBytes n w) (in-n : Within n a) (d : Decided v) (w' : List ℕ) (r : Outcome)
      (s : PutsUnless n m a given v w w' r) where
    pub kept_unless : Kept n w w'
    kept_unless =
        ⊎_elim
        (λ e. subst (Kept n w) (sym (s.there e).0) (kept_refl n w p))
        (λ f. kept_put n w a v p in-n d w' r (s.elsewhere f))
        (equal? (side n m a) given)

    pub step_unless :
        (Good : Map → Type 0) → ((side n m a ≡ given → ⊥) → Concludes Good (side n w) a v)
        → Step Good n (Unless (side n m) a given v) w w' r
    step_unless Good c =
        ⊎_elim
        (λ e.
        subst (λ (x : List ℕ). Step Good n (Unless (side n m) a given v) w x r) (sym (s.there e).0)
        (subst (Step Good n (Unless (side n m) a given v) w w) (sym (s.there e).1)
        (step_same Good n (Unless (side n m) a given v) w p (λ f. absurd (f e)))))
        (λ f.
        quieter Good n (λ M. M a ≡ v) (Unless (side n m) a given v) w w' r (λ e _. e)
        (step_put Good n w a v p in-n d (c f) w' r (s.elsewhere f)))
        (equal? (side n m a) given)

-- the heads of a rule, one after another
module _ (c : List ℕ) (n i : ℕ) (m u : List ℕ) (row : Row c n i) (space : MapBytes n u) where
  pub heads_more :
      (j a : ℕ) (u' u'' : List ℕ) (r : Bool) (q : Outcome) → heads_at c i ≤ j → j < positives_at c i → a ≡ pair_atom c j
      → GroundsHeads c n i m u j u' (Ok r) → PutsUnless n m a 2 1 u' u'' q → GroundsHeads c n i m u (j + 1) u'' (after r q)
  heads_more j a u' u'' r q l h ea s p =
      record {
        kept = kept_trans n u u' u'' s.kept kept;
        step =
            λ P due.
            steps_more (Grounding P (side n m)) n (λ k. Unless (side n m) (pair_atom c k) 2 1) (heads_at c i) j u u' u'' r q
            (s.step P due) kept
            (λ up.
            step_unless n m (pair_atom c j) 2 1 u' s.kept.proper within sided_in u'' q puts (Grounding P (side n m))
            (λ f. concludes_on (Grounding P (side n m)) up
            (due (pair_atom c j) (atoms_has c (heads_at c i) (positives_at c i) j (record { low = l; high = h })) f)));
      }
    where
      within : Within n (pair_atom c j)
      within = (row.heads.pairs j l h).within

      puts : PutsUnless n m (pair_atom c j) 2 1 u' u'' q
      puts = subst (λ (x : ℕ). PutsUnless n m x 2 1 u' u'' q) ea p

      kept : Kept n u' u''
      kept = kept_unless n m (pair_atom c j) 2 1 u' s.kept.proper within sided_in u'' q puts

  -- a clash at a head is one at the heads
  pub heads_clash :
      (j : ℕ) (u' : List ℕ) {e : Clash} → GroundsHeads c n i m u j u' (Err e) → GroundsHeads c n i m u (positives_at c i) u' (Err e)
  heads_clash j u' s =
      record {
        kept = s.kept;
        step =
            λ P due.
            clash_any (Grounding P (side n m)) n (Till (λ k. Unless (side n m) (pair_atom c k) 2 1) (heads_at c i) j)
            (Till (λ k. Unless (side n m) (pair_atom c k) 2 1) (heads_at c i) (positives_at c i)) u u' (s.step P due);
      }

  -- every head by its place
  by_place :
      (U : Map) → ((k : ℕ) → heads_at c i ≤ k → k < positives_at c i → Unless (side n m) (pair_atom c k) 2 1 U) → Full (row_rule c i)
      (side n m) U
  by_place U all a t f =
      let l : AtomFound c (heads_at c i) (positives_at c i) a = atoms_listed c (heads_at c i) (positives_at c i) a t in
      ap U l.same ∙ all l.at l.among.low l.among.high (λ e. f (ap (side n m) l.same ∙ e))

  pub lacks_none :
      (j : ℕ) → positives_at c i ≤ j → Sofar c i (λ a. Unless (side n m) a 2 1 (side n u)) j
      → Lacks (row_rule c i) (side n m) (side n u) false
  lacks_none j h all = record { tells = scan_end c i (λ a. Unless (side n m) a 2 1 (side n u)) j h all }

  -- one rule
  module _ (need most : ℕ) (en : need ≡ need_at c i) (er : most ≡ value (row_rule c i) (is 1 (side n u)) (isnt 1 (side n m))) where
    pub ground_give :
        need ≤ most → (u' : List ℕ) (r : Outcome) → GroundsHeads c n i m u (positives_at c i) u' r → GroundsRule c n i m u u' r
    ground_give h u' r s =
        record {
          kept = s.kept;
          step =
              λ P b.
              quieter (Grounding P (side n m)) n
              (Till (λ k. Unless (side n m) (pair_atom c k) 2 1) (heads_at c i) (positives_at c i))
              (Grounded (row_rule c i) (side n m)) u u' r
              (λ t _. by_place (side n u) t)
              (s.step P (λ a t f. record { forced = λ X x up. T_eq (x.holds_heads (row_rule c i) b a t f (more X up)) }));
        }
      where
        part :
            (X : Map) → side n u ⊑ X → (s : Bool) (l : Weighted) → Memᴰ l (body (row_rule c i) s)
            → T (by s (is 1 (side n u)) (isnt 1 (side n m)) l.atom) → T (by s (is 1 X) (isnt 1 (side n m)) l.atom)
        part X up true l b t = eq_T (up.keeps true l.atom (T_eq t))
        part X up false l b t = t

        more : (X : Map) → side n u ⊑ X → need_at c i ≤ value (row_rule c i) (is 1 X) (isnt 1 (side n m))
        more X up =
            omega (arith, value_mono (row_rule c i) (is 1 (side n u)) (isnt 1 (side n m)) (is 1 X) (isnt 1 (side n m)) (part X up))
