-- The rules of a table: its first rule and the rest, which rules are among them, and that they fit n atoms. By induction on how
-- many rows are left, and by the runs of pairs of each row.
use Prim.Native.Nat.{ℕ, zero, suc, ◌+◌, ◌-◌, ◌≤◌, ◌<◌}
use mathlib.Core.Path.{◌≡◌, refl, sym, ◌∙◌, ap, subst}
use mathlib.Core.Bool.{Bool, true, false}
use mathlib.Core.List.Memᴰ
use mathlib.Core.List.{List, [], ◌∷◌, Memᴰ}
use mathlib.Core.Logic.{⊎_elim}
use native.Mathlib.Nat.{eq-or-lt_of_le, lt_trans}
use native.Mathlib.Omega.{arith}
use native.Mathlib.Numerals.{add-one}
use lib.Dec.{T, eqb}
use Rattle.rules.specs.Sum.{has, pick}
use Rattle.rules.specs.Rule.{Rule, Weighted, kind_of, chooses, body, Within, kind_number, atoms_of}
use Rattle.rules.specs.declared.kind.Kind.TheVariants.{Basic as basic, Constraint as constraint, Choice as choice, Weight as weight}
use Rattle.rules.proofs.Fits.{Fits, Numbered}
use Rattle.table.specs.Inner.Words.{pair_atom, seg}
use Rattle.table.specs.Inner.Rows.{row_rule, row_rules, table_rules, heads_at, positives_at, from, to, Row, Laid, table_sheet}
use Rattle.table.proofs.Words.{Among, PairFound, AtomFound, seg_found, atoms_listed}

-- of the four kinds only choice chooses
three : (a b c : Bool) → chooses (pick a choice (pick b basic (pick c constraint weight))) ≡ a
unfolding pick
three true b c = refl
three false true c = refl
three false false true = refl
three false false false = refl

pub kind_chooses : (w : ℕ) → chooses (kind_of w) ≡ eqb w (kind_number choice)
unfolding kind_of
kind_chooses w = three (eqb w (kind_number choice)) (eqb w (kind_number basic)) (eqb w (kind_number constraint))

-- the rules from row i to before count
pub rules_done : (c : List ℕ) (i count : ℕ) → count ≤ i → row_rules c (count - i) i ≡ []
unfolding row_rules
rules_done c i count h = let e : count - i ≡ 0 = omega arith in ap (λ (k : ℕ). row_rules c k i) e

pub rows_next :
    (c : List ℕ) (i count : ℕ) → i < count
    → row_rules c (count - i) i ≡ row_rule c i ∷ row_rules c (count - (i + 1)) (i + 1)
unfolding row_rules
rows_next c i count h =
    let e : count - i ≡ suc (count - (i + 1)) = omega arith in
    ap (λ (k : ℕ). row_rules c k i) e ∙ ap (λ (j : ℕ). row_rule c i ∷ row_rules c (count - (i + 1)) j) (sym (add-one i))

-- a rule of a table is that of one of its rows
pub record Standing (c : List ℕ) (first last : ℕ) (r : Rule) : Type 0 where
  pub row : ℕ
  pub among : Among first last row
  pub same : r ≡ row_rule c row

module _ (c : List ℕ) where
  in_rules : (k i : ℕ) (r : Rule) → Memᴰ r (row_rules c k i) → Standing c i (i + k) r
  unfolding row_rules
  in_rules zero i r m = absurd (Memᴰ.not-nil m)
  in_rules (suc k) i r m =
      ⊎_elim (λ e. record { row = i; among = omega arith; same = e }) (λ t. later (in_rules k (suc i) r t)) (Memᴰ.cases_cons m)
    where
      later : Standing c (suc i) (suc i + k) r → Standing c i (i + suc k) r
      later f = record { row = f.row; among = omega arith; same = f.same }

  of_rules : (k i x : ℕ) → i ≤ x → x < i + k → Memᴰ (row_rule c x) (row_rules c k i)
  unfolding row_rules
  of_rules zero i x l h = absurd (omega arith)
  of_rules (suc k) i x l h =
      ⊎_elim (λ e. Memᴰ.head (ap (row_rule c) (sym e))) (λ t. Memᴰ.tail (of_rules k (suc i) x t (omega arith)))
      (eq-or-lt_of_le l)

  module _ (count : ℕ) where
    pub rule_stands : (r : Rule) → Memᴰ r (table_rules c count) → Standing c 0 count r
    rule_stands r m =
        let f : Standing c 0 (0 + count) r = in_rules count 0 r m in record { row = f.row; among = omega arith; same = f.same }

    pub rule_mem : (i : ℕ) → i < count → Memᴰ (row_rule c i) (table_rules c count)
    rule_mem i h = of_rules count 0 i (omega arith) (omega arith)

-- the literals of a sign are a run of pairs
pub body_seg : (c : List ℕ) (i : ℕ) (s : Bool) → body (row_rule c i) s ≡ seg c (from c i s) (to c i s)
body_seg c i true = refl
body_seg c i false = refl

-- the heads of a row are in order, so no two of them are one atom
module _ (c : List ℕ) (n i : ℕ) (row : Row c n i) where
  heads_rise : (k j : ℕ) → heads_at c i ≤ j → j + suc k < positives_at c i → pair_atom c j < pair_atom c (j + suc k)
  heads_rise zero j l h = row.increasing j l h
  heads_rise (suc k) j l h =
      let e : j + suc (suc k) ≡ (j + suc k) + 1 = omega arith in
      subst (λ (x : ℕ). pair_atom c j < pair_atom c x) (sym e)
      (lt_trans (heads_rise k j l (omega arith)) (row.increasing (j + suc k) (omega arith) (omega arith)))

  pub heads_apart : (j k : ℕ) → heads_at c i ≤ j → j < k → k < positives_at c i → pair_atom c j ≡ pair_atom c k → ⊥
  heads_apart j k l h b e =
      let d : j + suc (k - (j + 1)) ≡ k = omega arith in
      omega (arith, heads_rise (k - (j + 1)) j l (omega arith), ap (pair_atom c) d, e)

module _ (c : List ℕ) (n count : ℕ) (laid : Laid c n count) where
  -- every row of it stands, that of the compute lists too
  pub row_stands : (i : ℕ) → i ≤ count → Row c n i
  row_stands i h =
      ⊎_elim (λ (e : i ≡ count). subst (Row c n) (sym e) laid.lists) (λ (l : i < count). laid.rows i l) (eq-or-lt_of_le h)

  row_of : (r : Rule) (s : Standing c 0 count r) → Row c n s.row
  row_of r s = laid.rows s.row s.among.high

  head_within : (r : Rule) → Standing c 0 count r → (a : ℕ) → T (has a r.heads) → Within n a
  head_within r s a t =
      let l : AtomFound c (heads_at c s.row) (positives_at c s.row) a = atoms_listed c _ _ a
      (subst (λ (q : Rule). T (has a q.heads)) s.same t) in
      subst (Within n) (sym l.same) ((row_of r s).heads.pairs l.at l.among.low l.among.high).within

  literal_within : (r : Rule) → Standing c 0 count r → (s : Bool) (l : Weighted) → Memᴰ l (body r s) → Within n l.atom
  literal_within r t s l m =
      let f : PairFound c (from c t.row s) (to c t.row s) l = seg_found c _ _ l
      (subst (Memᴰ l) (ap (λ (q : Rule). body q s) t.same ∙ body_seg c t.row s) m) in
      subst (λ (x : Weighted). Within n x.atom) (sym f.same)
      (((row_of r t).literals s).pairs f.at f.among.low f.among.high).within

  -- every atom of every rule of a table is one of the n
  pub laid_fits : Fits n (table_rules c count)
  laid_fits =
      record {
        head = λ r m. head_within r (rule_stands c count r m);
        literal = λ r m. literal_within r (rule_stands c count r m);
      }

  -- every atom of one of its compute lists too
  list_within : (s : Bool) (a : ℕ) → T (has a (atoms_of (body (row_rule c count) s))) → Within n a
  list_within s a t =
      let l : AtomFound c (from c count s) (to c count s) a = atoms_listed c _ _ a
      (subst (λ (ls : List Weighted). T (has a (atoms_of ls))) (body_seg c count s) t) in
      subst (Within n) (sym l.same) ((laid.lists.literals s).pairs l.at l.among.low l.among.high).within

  pub laid_numbered : Numbered (table_sheet c n count)
  laid_numbered = record { rules = laid_fits; compute_in = list_within true; compute_out = list_within false }
