-- Sweeps until nothing is added give U: every set that holds what U must hold is a map above the blank one, so what is gathered is in
-- it, and a clash is none, since the atoms that are not out are such a set. An atom outside U is not founded, so it is out in every
-- closed map.
use Prim.Native.Nat.{ℕ, ◌+◌, ◌≤◌}
use mathlib.Core.Path.{◌≡◌, refl, sym, ◌∙◌, subst}
use mathlib.Core.Bool.{Bool, true, false, cond}
use mathlib.Core.List.{List, Memᴰ}
use lib.Dec.{T, eqb}
use Rattle.rules.specs.Sum.{has}
use Rattle.rules.specs.Rule.{Rule, Weighted, Within, body}
use Rattle.rules.specs.Stable.{Set, value}
use Rattle.rules.specs.Map.{Map, side, is, isnt, ◌⊑◌}
use Rattle.rules.specs.Forcing.{Closed, Grounds, Founded}
use Rattle.rules.specs.Inner.Bytes.{MapBytes}
use Rattle.rules.proofs.Tests.{eq_T, T_eq, ne_T, T_ne}
use Rattle.rules.proofs.Value.{by, value_same}
use Rattle.rules.proofs.Maps.{want_decided}
use Rattle.rules.proofs.Forced.{forced_fourth}
use Rattle.table.specs.Inner.Rows.{row_rule, table_rules}
use Rattle.table.proofs.Rows.{Standing, rule_stands}
use Rattle.weigh.specs.Inner.Step.{Concludes, Kept, Outcome, Till, Forces}
use Rattle.std.specs.Prelude.{Ok, Err}
use Rattle.weigh.specs.declared.Clash.{Clash}
use Rattle.weigh.proofs.Steps.{after, kept_trans, concludes_on, clash_any, steps_more}
use Rattle.forcing.specs.Inner.Ground.{PutsUnless, Unless, Grounding, Grounded, GroundsAll, Blank, ListsFounded, Drops}
use Rattle.forcing.proofs.Groundings.{sided_out, kept_unless, step_unless}

-- what is gathered so far has to be in U
pub record Founding (c : List ℕ) (n count : ℕ) (m u u' : List ℕ) : Type 0 where
  pub kept : Kept n u u'
  pub forces : Forces (Grounding (table_rules c count) (side n m)) (side n u) (side n u')

-- the map that stands for a set
marks : Set → Map
marks C a = cond (C a) 1 0

marked : (b : Bool) → eqb (cond b 1 0) 1 ≡ b
marked true = refl
marked false = refl

marks_is : (C : Set) (a : ℕ) → is 1 (marks C) a ≡ C a
unfolding marks
marks_is C a = marked (C a)

module _ (P : List Rule) (M : Map) where
  marks_grounds : (C : Set) → Grounds P M C → Grounding P M (marks C)
  marks_grounds C g =
      record {
        none_out = λ a t e. g.none_out a (subst T (marks_is C a) t) e;
        holds_heads =
            λ r b a t f k.
            subst T (sym (marks_is C a))
            (g.holds_heads r b a t f
            (subst (λ (x : ℕ). r.need ≤ x) (value_same r (is 1 (marks C)) (isnt 1 M) C (isnt 1 M) (part r)) k));
      }
    where
      part :
          (r : Rule) (s : Bool) (l : Weighted) → Memᴰ l (body r s)
          → by s (is 1 (marks C)) (isnt 1 M) l.atom ≡ by s C (isnt 1 M) l.atom
      part r true l b = marks_is C l.atom
      part r false l b = refl

  -- the atoms that are not out
  all_grounds : Grounds P M (isnt 2 M)
  all_grounds = record { none_out = λ a t e. T_ne t e; holds_heads = λ r b a t f k. ne_T f }

  -- what is below every such map is in every such set
  below_founded : (U : Map) → ((X : Map) → Grounding P M X → U ⊑ X) → (a : ℕ) → U a ≡ 1 → Founded P M a
  below_founded U below a e C g =
      subst T (marks_is C a) (eq_T ((below (marks C) (marks_grounds C g)).keeps true a e))

blank_below : (n : ℕ) (u : List ℕ) → Blank n u → (X : Map) → side n u ⊑ X
blank_below n u b X = record { keeps = λ s a e. absurd (want_decided s (sym e ∙ b.blank a)) }

module _ (c : List ℕ) (n count : ℕ) (m u : List ℕ) where
  module _ (b : Blank n u) where
    below : (u' : List ℕ) → Founding c n count m u u' → (X : Map) → Grounding (table_rules c count) (side n m) X → side n u' ⊑ X
    below u' f X x = f.forces.sound X x (blank_below n u b X)

    lists :
        (u' : List ℕ) → Founding c n count m u u' → Till (λ k. Grounded (row_rule c k) (side n m)) 0 count (side n u')
        → ListsFounded c n count m u'
    lists u' f quiet =
        record { proper = f.kept.proper; listed = listed; grounds = record { none_out = none_out; holds_heads = holds_heads } }
      where
        listed : (a : ℕ) → side n u' a ≡ 1 → Founded (table_rules c count) (side n m) a
        listed = below_founded (table_rules c count) (side n m) (side n u') (below u' f)

        none_out : (a : ℕ) → T (is 1 (side n u') a) → side n m a ≡ 2 → ⊥
        none_out a t e = T_ne (listed a (T_eq t) (isnt 2 (side n m)) (all_grounds (table_rules c count) (side n m))) e

        holds_heads :
            (r : Rule) → Memᴰ r (table_rules c count) → (a : ℕ) → T (has a r.heads) → (side n m a ≡ 2 → ⊥)
            → r.need ≤ value r (is 1 (side n u')) (isnt 1 (side n m)) → T (is 1 (side n u') a)
        holds_heads r q a t o k =
            let s : Standing c 0 count r = rule_stands c count r q in
            eq_T
            (quiet s.row s.among.low s.among.high
            (subst (λ (x : Rule). x.need ≤ value x (is 1 (side n u')) (isnt 1 (side n m))) s.same k) a
            (subst (λ (x : Rule). T (has a x.heads)) s.same t) o)

    pub founding_end :
        (u' u'' : List ℕ) (r : Outcome) → (r ≡ Ok true → ⊥) → Founding c n count m u u' → GroundsAll c n count m u' u'' r
        → ListsFounded c n count m u''
    founding_end u' u'' (Err _) e f s =
        absurd (s.went.none (marks (isnt 2 (side n m))) (good) (below u' f (marks (isnt 2 (side n m))) good))
      where
        good : Grounding (table_rules c count) (side n m) (marks (isnt 2 (side n m)))
        good = marks_grounds (table_rules c count) (side n m) (isnt 2 (side n m)) (all_grounds (table_rules c count) (side n m))
    founding_end u' u'' (Ok false) e f s =
        subst (ListsFounded c n count m) (sym s.went.0) (lists u' f s.went.1)
    founding_end u' u'' (Ok true) e f s = absurd (e refl)

-- dropping the atoms that are not in U
module _ (n : ℕ) (u m : List ℕ) (p : MapBytes n m) where
  pub drop_more :
      (a : ℕ) (m' m'' : List ℕ) (r : Bool) (q : Outcome) → 1 ≤ a → a ≤ n → Drops n u m a m' (Ok r) → PutsUnless n u a 1 2 m' m'' q
      → Drops n u m (a + 1) m'' (after r q)
  drop_more a m' m'' r q l h s t =
      record {
        kept = kept_trans n m m' m'' s.kept kept;
        step =
            λ P due.
            steps_more (Closed P n) n (λ b. Unless (side n u) b 1 2) 1 a m m' m'' r q (s.step P due) kept
            (λ up. step_unless n u a 1 2 m' s.kept.proper within sided_out m'' q t (Closed P n)
            (λ f. concludes_on (Closed P n) up (due a within f)));
      }
    where
      within : Within n a
      within = record { low = l; high = h }

      kept : Kept n m' m''
      kept = kept_unless n u a 1 2 m' s.kept.proper within sided_out m'' q t

  pub drop_clash : (a b : ℕ) (m' : List ℕ) {e : Clash} → Drops n u m a m' (Err e) → Drops n u m b m' (Err e)
  drop_clash a b m' s =
      record {
        kept = s.kept;
        step =
            λ P due.
            clash_any (Closed P n) n (Till (λ x. Unless (side n u) x 1 2) 1 a) (Till (λ x. Unless (side n u) x 1 2) 1 b) m m'
            (s.step P due);
      }

-- an atom that is not in U is out in every closed map
pub unfounded_out :
    (c : List ℕ) (n count : ℕ) (m u : List ℕ) → ListsFounded c n count m u → (b : ℕ) → Within n b → (side n u b ≡ 1 → ⊥)
    → Concludes (Closed (table_rules c count) n) (side n m) b 2
unfounded_out c n count m u l b w f =
    record { forced = λ X x up. forced_fourth up x b w (λ g. f (T_eq (g (is 1 (side n u)) l.grounds))) }
