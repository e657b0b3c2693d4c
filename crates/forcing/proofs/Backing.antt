-- Counts only fall as a map grows, so a rule that can still give an atom whose count was 1 is the one rule that can.
use Prim.Native.Nat.{ℕ, ◌+◌, ◌-◌, ◌≤◌, ◌<◌}
use mathlib.Core.Path.{◌≡◌, refl, sym, ◌∙◌}
use mathlib.Core.Bool.{Bool, true, false}
use mathlib.Core.List.{List, Memᴰ}
use native.Mathlib.Omega.{arith}
use lib.Dec.{T}
use Rattle.rules.specs.Rule.{Rule, Within}
use Rattle.rules.specs.Map.{Map, side, want, reach, ◌⊑◌}
use Rattle.rules.specs.Forcing.{Closed, supports, Only}
use Rattle.rules.specs.Inner.Bytes.{MapBytes}
use Rattle.rules.specs.Inner.Decides.{Decides}
use Rattle.rules.proofs.Sum.{tally_mono, count_some}
use Rattle.rules.proofs.Decides.{is_so, not_so}
use Rattle.rules.proofs.Maps.{reach_falls, decided_within}
use Rattle.rules.proofs.Forced.{supports_head, supports_reach, to_supports, one_only, forced_second}
use Rattle.table.specs.Inner.Words.{pair_atom}
use Rattle.table.specs.Inner.Rows.{heads_at, positives_at, need_at, row_rule}
use Rattle.table.proofs.Words.{atoms_has}
use Rattle.weigh.specs.Inner.Step.{Outcome}
use Rattle.weigh.specs.Inner.Press.{aim, Pressed, Due, PressesBody}
use Rattle.std.specs.Prelude.{Ok}
use Rattle.weigh.proofs.Bytes.{proper_map}
use Rattle.weigh.proofs.Steps.{kept_refl, step_same, quieter}
use Rattle.forcing.specs.Inner.Support.{supporters, Counts, Scarce, ScarceHead, Backed, Backs}
use Rattle.forcing.proofs.HeadScans.{Sofar, scan_end}
use Rattle.forcing.proofs.Counting.{one_told, told_one_in}

module _ (c : List ℕ) (n i : ℕ) (M : Map) (counts : List ℕ) (least : ℕ) where
  -- an atom of which it is not so
  abbrev pub Ample : ℕ → Type 0
  Ample a = Scarce n M counts least a → ⊥

  pub scarce_here :
      (j : ℕ) (b : Bool) → heads_at c i ≤ j → j < positives_at c i → b ≡ true → Decides b (Scarce n M counts least (pair_atom c j))
      → Decides true (ScarceHead c n i M counts least)
  scarce_here j b l h e t =
      record {
        decides =
            record {
              atom = pair_atom c j;
              head = atoms_has c (heads_at c i) (positives_at c i) j (record { low = l; high = h });
              scarce = is_so e t;
            };
      }

  pub scarce_nowhere : (j : ℕ) → positives_at c i ≤ j → Sofar c i Ample j → Decides false (ScarceHead c n i M counts least)
  scarce_nowhere j b none = record { decides = λ s. scan_end c i Ample j b none s.atom s.head s.scarce }

-- a literal made true is on the side that its sign wants
granted : (s : Bool) → aim true s ≡ want s
granted true = refl
granted false = refl

-- the rules that can give an atom only become fewer
fewer_supporters : (P : List Rule) (M M' : Map) (a : ℕ) → M ⊑ M' → supporters a M' P ≤ supporters a M P
fewer_supporters P M M' a f =
    tally_mono (supports a M') (supports a M) (λ _. 1) P
    (λ r b t. to_supports a M r (supports_head a M' r t) (omega (arith, reach_falls f r, supports_reach a M' r t)))

module _ (c : List ℕ) (n i : ℕ) (counts m : List ℕ) (proper : MapBytes n m) where
  -- nothing to add, and nothing done
  left : ((P : List Rule) → Counts P n (side n m) counts → Backed P (row_rule c i) (side n m)) → Backs c n i counts m m (Ok false)
  left q =
      record {
        kept = kept_refl n m proper;
        step = λ P b M₀ up k. step_same (Closed P n) n (λ M. Counts P n M counts → Backed P (row_rule c i) M) m proper (q P);
      }

  within : (a : ℕ) → side n m a ≡ 1 → Within n a
  within a e = decided_within (proper_map n m proper) true a e

  pub back_none : (b : Bool) → b ≡ false → Decides b (ScarceHead c n i (side n m) counts 1) → Backs c n i counts m m (Ok false)
  back_none b e t =
      left
      (λ P k a h o g.
      let one = one_told P n (side n m) counts k a (within a h) h o in
      absurd
      (not_so e t
      (record {
        atom = a;
        head = supports_head a (side n m) (row_rule c i) g;
        scarce = record { holds = h; low = omega (arith, one); few = omega (arith, one) };
      })))

  module _ (need most : ℕ) (en : need ≡ need_at c i) (er : most ≡ reach (row_rule c i) (side n m)) where
    pub back_press :
        (b : Bool) → b ≡ true → Decides b (ScarceHead c n i (side n m) counts 1) → need ≤ most → (m' : List ℕ) (r : Outcome)
        → PressesBody c n i (most - need + 1) true m m' r → Backs c n i counts m m' r
    back_press b e t h m' r p =
        record {
          kept = p.kept;
          step =
              λ P b M₀ up k.
              quieter (Closed P n) n (Pressed (row_rule c i) (most - need + 1))
              (λ M. Counts P n M counts → Backed P (row_rule c i) M) m m' r
              (λ q g a o u v s l w z d. q s l w (omega arith) z)
              (p.step P (due P b M₀ up k));
        }
      where
        lone : ScarceHead c n i (side n m) counts 1
        lone = is_so e t

        holds : side n m lone.atom ≡ 1
        holds = lone.scarce.holds

        due :
            (P : List Rule) → Memᴰ (row_rule c i) P → (M₀ : Map) → M₀ ⊑ side n m → Counts P n M₀ counts
            → Due P n (row_rule c i) (most - need + 1) true (side n m)
        due P b M₀ up k s l w g z =
            record {
              forced = λ X x f. forced_second f x lone.atom holds (row_rule c i) b supp only s l w z (omega arith) ∙ sym
                  (granted s);
            }
          where
            supp : T (supports lone.atom (side n m) (row_rule c i))
            supp = to_supports lone.atom (side n m) (row_rule c i) lone.head (omega arith)

            one : supporters lone.atom (side n m) P ≡ 1
            one =
                omega (
                  arith,
                  told_one_in P n M₀ counts k lone.atom (within lone.atom holds)
                      (omega (arith, lone.scarce.low, lone.scarce.few)),
                  fewer_supporters P M₀ (side n m) lone.atom up,
                  count_some (supports lone.atom (side n m)) P (row_rule c i) b supp,
                )

            only : Only P lone.atom (side n m) (row_rule c i)
            only = one_only P lone.atom (side n m) (row_rule c i) b supp one
