-- Each head of a rule is one atom, so a rule that can still give its heads adds one to the count of each that is in, and none
-- twice; a head that has two needs no more. Each rule stands in one row, so where a count is not 1 there are two rules, or none.
use Prim.Native.Nat.{ℕ, zero, suc, ◌+◌, ◌-◌, ◌≤◌, ◌<◌}
use mathlib.Core.Path.{◌≡◌, refl, sym, ◌∙◌, ap}
use mathlib.Core.Bool.{Bool, true, false, not, ◌&&◌, ◌||◌, and-true, and-false}
use mathlib.Core.Logic.{⊎_elim}
use mathlib.Core.List.{List, Memᴰ}
use native.Mathlib.Omega.{arith}
use lib.Dec.{T, T_not, eqb}
use lib.ListN.{length, set}
use borrow.Author.Tests.{eq-eqb, ne_eqb, le-leb}
use Rattle.rules.specs.Sum.{counted, tally, has}
use Rattle.rules.specs.Rule.{Rule, Within}
use Rattle.rules.specs.Map.{Map, side, is, reach}
use Rattle.rules.specs.Forcing.{supports, Only}
use Rattle.rules.specs.Inner.Decides.{Decides}
use Rattle.rules.proofs.Tests.{eq_T, T_true, T_false, T_same, and_T, T_and_left, T_and_right, decided, below?, T_eq, T_ne}
use Rattle.rules.proofs.Decides.{not_so}
use Rattle.rules.proofs.Sum.{counted_most, count_some}
use Rattle.rules.proofs.Forced.{supports_head, supports_reach}
use Rattle.rules.proofs.Bytes.{written_same, written_other}
use Rattle.table.specs.Inner.Words.{pair_atom, seg_atoms}
use Rattle.table.specs.Inner.Rows.{heads_at, positives_at, need_at, row_rule, row_rules, table_rules, Row, Laid}
use Rattle.table.proofs.Words.{AtomFound, atoms_listed, has_done, has_next}
use Rattle.table.proofs.Rows.{Standing, rule_stands, rule_mem, heads_apart, rules_done, rows_next}
use Rattle.weigh.proofs.Bytes.{equal?}
use Rattle.forcing.specs.Inner.Support.{supporters, up_to_two, Counts, Adds, ScarceHead}
use Rattle.forcing.proofs.Told.{told_more, told_one, told_twice, told_add}

-- the rules before row i are counted
pub record Counting (c : List ℕ) (n count : ℕ) (M : Map) (i : ℕ) (counts : List ℕ) : Type 0 where
  pub room : n ≤ length counts
  pub sofar :
      (a : ℕ) → Within n a
      → up_to_two (side n counts a + counted (is 1 M a) (supporters a M (row_rules c (count - i) i)))
      ≡ up_to_two (counted (is 1 M a) (supporters a M (table_rules c count)))

-- the heads before pair j are counted
pub record Heading (c : List ℕ) (n i : ℕ) (M : Map) (counts₀ : List ℕ) (j : ℕ) (counts : List ℕ) : Type 0 where
  pub long : length counts ≡ length counts₀
  pub low : heads_at c i ≤ j
  pub sofar :
      (a : ℕ) → Within n a
      → up_to_two (side n counts a + counted (is 1 M a && has a (seg_atoms c j (positives_at c i))) 1)
      ≡ up_to_two (side n counts₀ a + counted (is 1 M a && has a (seg_atoms c (heads_at c i) (positives_at c i))) 1)

-- where a test does not pass there is no more
unchanged : (k : ℕ) (b : Bool) → (T b → ⊥) → up_to_two k ≡ up_to_two (k + counted b 1)
unchanged k b f =
    let z : counted b 1 ≡ 0 = ap (λ (x : Bool). counted x 1) (T_false b f) in
    ap up_to_two (omega arith)

-- one more at one atom
module _ (n : ℕ) (counts : List ℕ) (a : ℕ) (w : Within n a) (room : n ≤ length counts) where
  more : List ℕ
  more = set counts (a - 1) (up_to_two (side n counts a + 1))

  bumped : (x : ℕ) → up_to_two (side n more x) ≡ up_to_two (side n counts x + counted (eqb x a) 1)
  unfolding more
  bumped x = ⊎_elim here there (equal? x a)
    where
      here : x ≡ a → up_to_two (side n more x) ≡ up_to_two (side n counts x + counted (eqb x a) 1)
      here e =
          ap up_to_two (ap (side n more) e ∙ written_same n counts a w room (up_to_two (side n counts a + 1)))
          ∙ told_twice (side n counts a + 1)
          ∙ ap up_to_two
          (let f : side n counts x ≡ side n counts a = ap (side n counts) e in
          let g : counted (eqb x a) 1 ≡ 1 = ap (λ (b : Bool). counted b 1) (eq-eqb x a e) in
          omega arith)

      there : (x ≡ a → ⊥) → up_to_two (side n more x) ≡ up_to_two (side n counts x + counted (eqb x a) 1)
      there e =
          ap up_to_two
          (written_other n counts a w room (up_to_two (side n counts a + 1)) x e
          ∙ (let g : counted (eqb x a) 1 ≡ 0 = ap (λ (b : Bool). counted b 1) (ne_eqb x a e) in omega arith))

  -- an atom that is in has one more, and any other has no more
  module _ (M : Map) where
    pub pair_in : M a ≡ 1 → Adds n (λ x. is 1 M x && eqb x a) counts (set counts (a - 1) (up_to_two (side n counts a + 1)))
    unfolding more
    pair_in e = record { adds = λ x _. bumped x ∙ ap (λ (b : Bool). up_to_two (side n counts x + counted b 1)) (same x) }
      where
        same : (x : ℕ) → eqb x a ≡ (is 1 M x && eqb x a)
        same x =
            T_same (eqb x a) (is 1 M x && eqb x a)
            (λ t. and_T (is 1 M x) (eqb x a) (eq_T (ap M (T_eq t) ∙ e)) t)
            (λ t. T_and_right (is 1 M x) (eqb x a) t)

-- what is counted only under a test
under : (b x y z : Bool) → counted x 1 ≡ counted y 1 + counted z 1 → counted (b && x) 1 ≡ counted (b && y) 1 + counted (b && z) 1
under true x y z e = e
under false x y z e = refl

under_sum : (b s : Bool) (k : ℕ) → counted b (counted s 1 + k) ≡ counted (b && s) 1 + counted b k
under_sum true s k = refl
under_sum false s k = refl

module _ (c : List ℕ) (n i : ℕ) (row : Row c n i) where
  -- a head counts once
  once :
      (a j : ℕ) → heads_at c i ≤ j → j < positives_at c i
      → counted (has a (seg_atoms c j (positives_at c i))) 1
      ≡ counted (eqb a (pair_atom c j)) 1 + counted (has a (seg_atoms c (j + 1) (positives_at c i))) 1
  once a j l h =
      ap (λ (b : Bool). counted b 1) (has_next a c j (positives_at c i) h)
      ∙ ⊎_elim first rest (decided (eqb a (pair_atom c j)))
    where
      later : Bool
      later = has a (seg_atoms c (j + 1) (positives_at c i))

      again : a ≡ pair_atom c j → T later → ⊥
      again e t =
          let f : AtomFound c (j + 1) (positives_at c i) a = atoms_listed c (j + 1) (positives_at c i) a t in
          heads_apart c n i row j f.at l (omega (arith, f.among.low)) f.among.high (sym e ∙ f.same)

      first : T (eqb a (pair_atom c j)) → counted (eqb a (pair_atom c j) || later) 1 ≡ counted (eqb a (pair_atom c j)) 1 + counted later 1
      first t = simp (T_true (eqb a (pair_atom c j)) t, T_false later (again (T_eq t)))

      rest :
          T (not (eqb a (pair_atom c j)))
          → counted (eqb a (pair_atom c j) || later) 1 ≡ counted (eqb a (pair_atom c j)) 1 + counted later 1
      rest t = simp (ne_eqb a (pair_atom c j) (T_ne t)) (omega arith)

  module _ (M : Map) (counts₀ : List ℕ) where
    pub heading_more :
        (j : ℕ) (counts counts' : List ℕ) → j < positives_at c i → length counts' ≡ length counts → Heading c n i M counts₀ j counts
        → Adds n (λ a. is 1 M a && eqb a (pair_atom c j)) counts counts' → Heading c n i M counts₀ (j + 1) counts'
    heading_more j counts counts' b long h p =
        record {
          long = long ∙ h.long;
          low = omega (arith, h.low);
          sofar =
              λ a w.
              told_add (side n counts' a) (side n counts a + counted (is 1 M a && eqb a (pair_atom c j)) 1)
              (counted (is 1 M a && has a (seg_atoms c (j + 1) (positives_at c i))) 1) (p.adds a w)
              ∙ ap up_to_two
              (omega (
                arith,
                under (is 1 M a) (has a (seg_atoms c j (positives_at c i))) (eqb a (pair_atom c j))
                    (has a (seg_atoms c (j + 1) (positives_at c i))) (once a j h.low b),
              ))
              ∙ h.sofar a w;
        }

    pub heading_end :
        (j : ℕ) (counts : List ℕ) → positives_at c i ≤ j → Heading c n i M counts₀ j counts
        → Adds n (λ a. is 1 M a && has a (seg_atoms c (heads_at c i) (positives_at c i))) counts₀ counts
    heading_end j counts b h =
        record {
          adds =
              λ a w.
              let z : counted (is 1 M a && has a (seg_atoms c j (positives_at c i))) 1 ≡ 0 =
              ap (λ (x : Bool). counted (is 1 M a && x) 1) (has_done a c j (positives_at c i) b)
              ∙ ap (λ (x : Bool). counted x 1) (and-false (is 1 M a))
              in
              ap up_to_two (omega arith) ∙ h.sofar a w;
        }

  -- a rule adds one to each head that is in, where it can still give it
  module _ (M : Map) (counts counts' : List ℕ) where
    pub rule_still :
        (b : Bool) → b ≡ false → Decides b (ScarceHead c n i M counts 0)
        → Adds n (λ a. is 1 M a && supports a M (row_rule c i)) counts counts
    rule_still b e t =
        record {
          adds =
              λ a w.
              let test = is 1 M a && supports a M (row_rule c i) in
              ⊎_elim (full a) (λ (no : T (not test)). unchanged (side n counts a) test (T_not test no)) (decided test);
        }
      where
        full :
            (a : ℕ) → T (is 1 M a && supports a M (row_rule c i))
            → up_to_two (side n counts a) ≡ up_to_two (side n counts a + counted (is 1 M a && supports a M (row_rule c i)) 1)
        full a u =
            let many : 2 ≤ side n counts a =
            ⊎_elim
            (λ (few : side n counts a < 2).
            absurd
            (not_so e t
            (record {
              atom = a;
              head = supports_head a M (row_rule c i) (T_and_right (is 1 M a) (supports a M (row_rule c i)) u);
              scarce = record { holds = T_eq (T_and_left (is 1 M a) (supports a M (row_rule c i)) u); low = omega arith; few = omega arith };
            })))
            (λ (h : 2 ≤ side n counts a). h) (below? (side n counts a) 2) in
            told_more (side n counts a) many ∙ sym (told_more _ (omega arith))

    module _ (need most : ℕ) (en : need ≡ need_at c i) (er : most ≡ reach (row_rule c i) M) where
      pub rule_short : most < need → Adds n (λ a. is 1 M a && supports a M (row_rule c i)) counts counts
      rule_short h =
          record {
            adds =
                λ a w.
                unchanged (side n counts a) (is 1 M a && supports a M (row_rule c i))
                (λ u. omega (arith, supports_reach a M (row_rule c i) (T_and_right (is 1 M a) (supports a M (row_rule c i)) u), en, er));
          }

      pub rule_long :
          need ≤ most → Adds n (λ a. is 1 M a && has a (seg_atoms c (heads_at c i) (positives_at c i))) counts counts'
          → Adds n (λ a. is 1 M a && supports a M (row_rule c i)) counts counts'
      rule_long h p =
          record {
            adds =
                λ a w.
                let z :
                counted (is 1 M a && supports a M (row_rule c i)) 1 ≡ counted (is 1 M a && has a (row_rule c i).heads) 1 =
                ap (λ (b : Bool). counted (is 1 M a && (has a (row_rule c i).heads && b)) 1)
                (le-leb (need_at c i) (reach (row_rule c i) M) (omega arith))
                ∙ ap (λ (b : Bool). counted (is 1 M a && b) 1) (and-true (has a (row_rule c i).heads))
                in
                p.adds a w ∙ ap up_to_two (omega arith);
          }

module _ (c : List ℕ) (n count : ℕ) (M : Map) where
  supporters_next :
      (a i : ℕ) → i < count
      → supporters a M (row_rules c (count - i) i)
      ≡ counted (supports a M (row_rule c i)) 1 + supporters a M (row_rules c (count - (i + 1)) (i + 1))
  unfolding tally
  supporters_next a i h = ap (supporters a M) (rows_next c i count h)

  supporters_done : (a i : ℕ) → count ≤ i → supporters a M (row_rules c (count - i) i) ≡ 0
  unfolding tally
  supporters_done a i h = ap (supporters a M) (rules_done c i count h)

  pub counting_begin :
      (counts : List ℕ) → n ≤ length counts → ((a : ℕ) → Within n a → side n counts a ≡ 0) → Counting c n count M 0 counts
  counting_begin counts room zeros = record { room = room; sofar = λ a w. ap up_to_two (omega (arith, zeros a w, whole a)) }
    where
      none : count - 0 ≡ count
      none = omega arith

      whole :
          (a : ℕ)
          → counted (is 1 M a) (supporters a M (row_rules c (count - 0) 0)) ≡ counted (is 1 M a) (supporters a M (table_rules c count))
      whole a = ap (λ (k : ℕ). counted (is 1 M a) (supporters a M (row_rules c k 0))) none

  pub counting_more :
      (i : ℕ) (counts counts' : List ℕ) → i < count → length counts' ≡ length counts → Counting c n count M i counts
      → Adds n (λ a. is 1 M a && supports a M (row_rule c i)) counts counts' → Counting c n count M (i + 1) counts'
  counting_more i counts counts' h e p q =
      record {
        room = omega (arith, p.room);
        sofar =
            λ a w.
            let f :
            counted (is 1 M a) (supporters a M (row_rules c (count - i) i))
            ≡ counted (is 1 M a && supports a M (row_rule c i)) 1
            + counted (is 1 M a) (supporters a M (row_rules c (count - (i + 1)) (i + 1))) =
            ap (counted (is 1 M a)) (supporters_next a i h)
            ∙ under_sum (is 1 M a) (supports a M (row_rule c i)) (supporters a M (row_rules c (count - (i + 1)) (i + 1)))
            in
            told_add (side n counts' a) (side n counts a + counted (is 1 M a && supports a M (row_rule c i)) 1)
            (counted (is 1 M a) (supporters a M (row_rules c (count - (i + 1)) (i + 1)))) (q.adds a w)
            ∙ ap up_to_two (omega arith)
            ∙ p.sofar a w;
      }

  pub counting_end : (i : ℕ) (counts : List ℕ) → count ≤ i → Counting c n count M i counts → Counts (table_rules c count) n M counts
  counting_end i counts h p a w =
      let z : counted (is 1 M a) (supporters a M (row_rules c (count - i) i)) ≡ 0 =
      ap (counted (is 1 M a)) (supporters_done a i h) ∙ none (is 1 M a)
      in
      ap up_to_two (omega arith) ∙ p.sofar a w
    where
      none : (b : Bool) → counted b 0 ≡ 0
      none true = refl
      none false = refl

-- an atom that is in has a count of 1 where one rule can give it; and where its count is 1 it was in, and one rule could
module _ (P : List Rule) (n : ℕ) (M : Map) (counts : List ℕ) (tells : Counts P n M counts) (a : ℕ) (w : Within n a) where
  pub one_told : M a ≡ 1 → supporters a M P ≡ 1 → side n counts a ≡ 1
  unfolding up_to_two
  one_told h o =
      told_one (side n counts a)
      (tells a w ∙ ap (λ (b : Bool). up_to_two (counted b (supporters a M P))) (eq-eqb (M a) 1 h) ∙ ap up_to_two o)

  pub told_one_in : side n counts a ≡ 1 → supporters a M P ≡ 1
  unfolding up_to_two
  told_one_in e = in_one (is 1 M a) (told_one _ (sym (tells a w) ∙ ap up_to_two e))
    where
      in_one : (b : Bool) → counted b (supporters a M P) ≡ 1 → supporters a M P ≡ 1
      in_one true o = o
      in_one false o = absurd (omega (arith, o))

-- each rule stands in one row, so where all that can give an atom are one rule they are one row
module _ (c : List ℕ) (a : ℕ) (M : Map) where
  none_count :
      (k i : ℕ) → ((x : ℕ) → i ≤ x → x < i + k → T (supports a M (row_rule c x)) → ⊥) → supporters a M (row_rules c k i) ≡ 0
  unfolding row_rules tally
  none_count zero i none = refl
  none_count (suc k) i none =
      let first : counted (supports a M (row_rule c i)) 1 ≡ 0 =
      ap (λ (b : Bool). counted b 1) (T_false (supports a M (row_rule c i)) (none i (omega arith) (omega arith))) in
      omega (arith, none_count k (suc i) (λ x low high. none x (omega arith) (omega arith)))

  one_count :
      (k i row : ℕ) → ((x : ℕ) → i ≤ x → x < i + k → T (supports a M (row_rule c x)) → x ≡ row) → supporters a M (row_rules c k i) ≤ 1
  unfolding row_rules tally
  one_count zero i row all = omega arith
  one_count (suc k) i row all =
      ⊎_elim
      (λ (t : T (supports a M (row_rule c i))).
      let e : i ≡ row = all i (omega arith) (omega arith) t in
      omega (
        arith,
        counted_most (supports a M (row_rule c i)) 1,
        none_count k (suc i) (λ x low high u. omega (arith, e, all x (omega arith) (omega arith) u)),
      ))
      (λ (no : T (not (supports a M (row_rule c i)))).
      let first : counted (supports a M (row_rule c i)) 1 ≡ 0 =
      ap (λ (b : Bool). counted b 1) (T_false (supports a M (row_rule c i)) (T_not (supports a M (row_rule c i)) no)) in
      omega (arith, one_count k (suc i) row (λ x low high. all x (omega arith) (omega arith))))
      (decided (supports a M (row_rule c i)))

pub only_once :
    (c : List ℕ) (n count : ℕ) → Laid c n count → (a : ℕ) (M : Map) (r : Rule) → Memᴰ r (table_rules c count) → T (supports a M r)
    → Only (table_rules c count) a M r → supporters a M (table_rules c count) ≡ 1
only_once c n count laid a M r among t only =
    omega (
      arith,
      count_some (supports a M) (table_rules c count) r among t,
      one_count c a M count 0 stands.row same,
    )
  where
    stands : Standing c 0 count r
    stands = rule_stands c count r among

    same : (x : ℕ) → 0 ≤ x → x < 0 + count → T (supports a M (row_rule c x)) → x ≡ stands.row
    same x low high u =
        laid.apart x stands.row (omega arith) stands.among.high
        (only (row_rule c x) (rule_mem c count x (omega arith)) u ∙ stands.same)
