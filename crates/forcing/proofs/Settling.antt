-- Why forcing rules 1 and 3 hold at a rule once they are applied: a rule that is no choice rule has one head, so each case of the
-- code is a case of the rules, and what it concludes is forced in every closed map.
use Prim.Native.Nat.{ℕ, ◌-◌, ◌≤◌, ◌<◌}
use mathlib.Core.Path.{◌≡◌, refl, sym, ◌∙◌, ap, subst}
use mathlib.Core.Bool.{Bool, true, false, not}
use mathlib.Core.List.{List, Memᴰ}
use native.Mathlib.Omega.{arith}
use lib.Dec.{T}
use Rattle.rules.specs.Sum.{has}
use Rattle.rules.specs.Rule.{Rule, Within, chooses}
use Rattle.rules.specs.Map.{Map, side, want, sure}
use Rattle.rules.specs.Forcing.{Closed}
use Rattle.rules.specs.Inner.Bytes.{MapBytes}
use Rattle.rules.proofs.Forced.{forced_first, forced_third}
use Rattle.table.specs.Inner.Words.{pair_atom}
use Rattle.table.specs.Inner.Rows.{heads_at, positives_at, kind_at, need_at, row_rule, Row}
use Rattle.table.proofs.Words.{AtomFound, atoms_listed, atoms_has}
use Rattle.weigh.specs.Inner.Step.{Concludes, Outcome, Puts}
use Rattle.weigh.specs.Inner.Press.{aim, Pressed, Due, PressesBody}
use Rattle.std.specs.Prelude.{Ok}
use Rattle.weigh.proofs.Steps.{kept_refl, kept_put, step_same, quieter, step_put}
use Rattle.forcing.specs.Inner.Heads.{Settled, Settles, HeadAsks}

-- a literal made false is on the side that its sign does not want
denied : (s : Bool) → aim false s ≡ want (not s)
denied true = refl
denied false = refl

module _ (c : List ℕ) (n i : ℕ) (m : List ℕ) where
  -- nothing to add, and nothing done
  left : MapBytes n m → Settled (row_rule c i) (side n m) → Settles c n i m m (Ok false)
  left p q = record { kept = kept_refl n m p; step = λ P b. step_same (Closed P n) n (Settled (row_rule c i)) m p q }

  module _ (row : Row c n i) (gives : T (not (chooses (kind_at c i)))) where
    -- its one head
    pub head_within : Within n (pair_atom c (heads_at c i))
    head_within =
        (row.heads.pairs (heads_at c i) (omega arith) (omega (arith, row.single gives))).within

    head_has : T (has (pair_atom c (heads_at c i)) (row_rule c i).heads)
    head_has =
        atoms_has c (heads_at c i) (positives_at c i) (heads_at c i)
        (record { low = omega arith; high = omega (arith, row.single gives) })

    head_only : (a : ℕ) → T (has a (row_rule c i).heads) → a ≡ pair_atom c (heads_at c i)
    head_only a t =
        let l : AtomFound c (heads_at c i) (positives_at c i) a = atoms_listed c (heads_at c i) (positives_at c i) a t in
        let e : l.at ≡ heads_at c i = omega (arith, row.single gives, l.among.low, l.among.high) in
        l.same ∙ ap (pair_atom c) e

    -- a head that is in settles the rule
    settled_in : (M : Map) → M (pair_atom c (heads_at c i)) ≡ 1 → Settled (row_rule c i) M
    settled_in M e =
        record {
          first = λ g k a h. ap M (head_only a h) ∙ e;
          third = λ g a h o s l b z k. omega (arith, sym o ∙ ap M (head_only a h) ∙ e);
        }

    pub settle_in : (x head : ℕ) → head ≡ pair_atom c (heads_at c i) → x ≡ side n m head → x ≡ 1 → MapBytes n m → Settles c n i m m (Ok false)
    settle_in x head eh ex e p = left p (settled_in (side n m) (ap (side n m) (sym eh) ∙ sym ex ∙ e))

  module _ (row : Row c n i) (head x need held : ℕ) (asks : HeadAsks c n i head x m) (en : need ≡ need_at c i)
      (es : held ≡ sure (row_rule c i) (side n m)) where
    out : (a : ℕ) → T (has a (row_rule c i).heads) → side n m a ≡ x
    out a t = ap (side n m) (head_only row asks.gives a t ∙ sym asks.its) ∙ sym asks.stands

    -- sure meets the need: the head is in
    pub settle_give : need ≤ held → (m' : List ℕ) (r : Outcome) → Puts n m head 1 m' r → Settles c n i m m' r
    settle_give h m' r s =
        record {
          kept =
              kept_put n m (pair_atom c (heads_at c i)) 1 asks.proper within (record { low = omega arith; high = omega arith })
              m' r puts;
          step =
              λ P b.
              quieter (Closed P n) n (λ M. M (pair_atom c (heads_at c i)) ≡ 1) (Settled (row_rule c i)) m m' r
              (settled_in row asks.gives (side n m))
              (step_put (Closed P n) n m (pair_atom c (heads_at c i)) 1 asks.proper within
              (record { low = omega arith; high = omega arith }) (concl P b) m' r puts);
        }
      where
        within : Within n (pair_atom c (heads_at c i))
        within = head_within row asks.gives

        puts : Puts n m (pair_atom c (heads_at c i)) 1 m' r
        puts = subst (λ (b : ℕ). Puts n m b 1 m' r) asks.its s

        concl : (P : List Rule) → Memᴰ (row_rule c i) P → Concludes (Closed P n) (side n m) (pair_atom c (heads_at c i)) 1
        concl P b =
            record {
              forced =
                  λ X x f.
                  forced_first f x (row_rule c i) b asks.gives (omega arith) (pair_atom c (heads_at c i))
                  (head_has row asks.gives);
            }

    -- the head is out: the body is denied
    pub settle_deny :
        held < need → x ≡ 2 → (m' : List ℕ) (r : Outcome) → PressesBody c n i (need - held) false m m' r → Settles c n i m m' r
    settle_deny h o m' r s =
        record {
          kept = s.kept;
          step =
              λ P b. quieter (Closed P n) n (Pressed (row_rule c i) (need - held)) (Settled (row_rule c i)) m m' r quiet
              (s.step P (due P b));
        }
      where
        due : (P : List Rule) → Memᴰ (row_rule c i) P → Due P n (row_rule c i) (need - held) false (side n m)
        due P b s l q k z =
            record {
              forced =
                  λ X y f.
                  forced_third f y (row_rule c i) b asks.gives (pair_atom c (heads_at c i)) (head_has row asks.gives)
                  (out (pair_atom c (heads_at c i)) (head_has row asks.gives) ∙ o) s l q z (omega arith)
                  ∙ sym (denied s);
            }

        quiet : Pressed (row_rule c i) (need - held) (side n m) → Settled (row_rule c i) (side n m)
        quiet p =
            record {
              first = λ g k. absurd (omega arith);
              third = λ g a t e s l b z k. p s l b (omega arith) z;
            }

    -- the head is undecided, and sure too small: nothing to add
    pub settle_wait : held < need → (x ≡ 2 → ⊥) → Settles c n i m m (Ok false)
    settle_wait h o =
        left asks.proper
        (record {
          first = λ g k. absurd (omega arith);
          third = λ g a t e. absurd (o (sym (out a t) ∙ e));
        })

-- a rule whose test for choice fails must give its head
pub must_give : (b k : Bool) → b ≡ k → b ≡ false → T (not k)
must_give b k e f = subst (λ (x : Bool). T (not x)) (sym f ∙ e) tt
