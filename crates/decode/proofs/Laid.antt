-- A row that stands for a rule of a sheet is well formed: its pairs are the rule's heads and literals, one for each, and those are
-- within the limits of a sheet.
use Prim.Native.Nat.{ℕ, zero, suc, ◌+◌, ◌-◌, ◌≤◌, ◌<◌}
use mathlib.Core.Path.{◌≡◌, refl, sym, ap, subst}
use mathlib.Core.Logic.{⊎_elim}
use mathlib.Core.Bool.{Bool, true, false, not}
use mathlib.Core.List.{List, map}
use native.Mathlib.Omega.{arith}
use native.Mathlib.Nat.{eq-or-lt_of_le}
use native.Mathlib.Numerals.{add-one}
use lib.ListN.{length, length-map}
use lib.Dec.{T}
use Rattle.rules.specs.Limits.{atoms_most, weight_most}
use Rattle.rules.specs.Rule.{Rule, Weighted, Within, chooses, one, ones, atoms_of, weights_of}
use Rattle.rules.specs.declared.kind.Kind.{Kind}
use Rattle.numbers.specs.Shown.Encode.{Linked, more, Rises, Rising}
use Rattle.numbers.proofs.lists.Whole.{rising_few}
use Rattle.sheet.specs.Shown.Encode.{LightOne, Light}
use Rattle.sheet.proofs.Sound.{Sound, ones_rise, ones_light}
use Rattle.table.specs.Inner.Words.{pair_atom, pair_at, pairs_from, seg, Seg}
use Rattle.table.specs.Inner.Rows.{from, to, Row}
use Rattle.decode.specs.Inner.Rows.{positives_from, negatives_from, end_from, RowWritten}

module _ (c : List ℕ) where
  -- what holds of each number of a list that is linked so, of the pairs that have those numbers
  linked_run :
      (Q : ℕ → ℕ → Type 0) (P : ℕ → Type 0) (f : Weighted → ℕ) → ((before x : ℕ) → Q before x → P x) → (k j : ℕ) {before : ℕ}
      → Linked Q before (map f (pairs_from c k j)) → (x : ℕ) → j ≤ x → x < j + k → P (f (pair_at c x))
  unfolding pairs_from
  linked_run Q P f all zero j l x low high = absurd (omega arith)
  linked_run Q P f all (suc k) j (more q l) x low high =
      ⊎_elim (λ (e : j ≡ x). subst (λ (y : ℕ). P (f (pair_at c y))) e (all _ _ q))
      (λ t. linked_run Q P f all k (suc j) l x t (omega arith))
      (eq-or-lt_of_le low)

  rise_run :
      (n k j : ℕ) {before : ℕ} → Linked (Rises n) before (atoms_of (pairs_from c k j)) → (x : ℕ) → j ≤ x → x + 1 < j + k
      → pair_atom c x < pair_atom c (x + 1)
  unfolding pairs_from
  rise_run n zero j l x low high = absurd (omega arith)
  rise_run n (suc zero) j l x low high = absurd (omega arith)
  rise_run n (suc (suc k)) j (more q (more p l)) x low high =
      ⊎_elim
      (λ (e : j ≡ x).
      subst (λ (y : ℕ). pair_atom c y < pair_atom c (y + 1)) e
      (subst (λ (y : ℕ). pair_atom c j < pair_atom c y) (sym (add-one j)) p.above))
      (λ t. rise_run n (suc k) (suc j) (more p l) x t (omega arith))
      (eq-or-lt_of_le low)

  module _ (n : ℕ) (few_atoms : n ≤ atoms_most) where
    pub list_seg :
        (first last : ℕ) (ls : List Weighted) → seg c first last ≡ ls → last ≡ first + length ls → Rising n (atoms_of ls)
        → Light (weights_of ls) → Seg c n first last
    unfolding seg
    list_seg first last ls e end rise light =
        let few : 0 + length (atoms_of ls) ≤ n = rising_few n rise (omega arith) in
        let same : length (atoms_of ls) ≡ length ls = length-map ls (λ l. l.atom) in
        let rises : Linked (Rises n) 0 (atoms_of (pairs_from c (last - first) first)) =
        subst (λ (xs : List Weighted). Linked (Rises n) 0 (atoms_of xs)) (sym e) rise
        in
        let lights : Linked LightOne 0 (map (λ l. l.weight) (pairs_from c (last - first) first)) =
        subst (λ (xs : List Weighted). Linked LightOne 0 (map (λ l. l.weight) xs)) (sym e) light
        in
        record {
          few = omega arith;
          pairs =
              λ j low high.
              record {
                within =
                    linked_run (Rises n) (Within n) (λ l. l.atom) (λ before x q. q.within) (last - first) first rises j low (omega arith);
                light =
                    linked_run LightOne (λ x. x ≤ weight_most) (λ l. l.weight) (λ before x q. q.most) (last - first) first lights j low
                    (omega arith);
              };
        }

    module _ (i j : ℕ) (r : Rule) (w : RowWritten c i j r) (sound : Sound n r) where
      heads_seg : Seg c n j (positives_from j r)
      unfolding positives_from
      heads_seg =
          list_seg j (positives_from j r) (ones r.heads) w.heads (ap (◌+◌ j) (sym (length-map r.heads one)))
          (ones_rise sound.heads)
          (ones_light 0 r.heads)

      literals_seg : (s : Bool) → Seg c n (from c i s) (to c i s)
      unfolding negatives_from end_from
      literals_seg true =
          rw (w.pos_from, w.neg_from)
          (list_seg (positives_from j r) (negatives_from j r) r.pos w.pos refl (sound.atoms true) (sound.light true))
      literals_seg false =
          rw (w.neg_from, w.end)
          (list_seg (negatives_from j r) (end_from j r) r.neg w.neg refl (sound.atoms false) (sound.light false))

      heads_rise : (x : ℕ) → j ≤ x → x + 1 < positives_from j r → pair_atom c x < pair_atom c (x + 1)
      unfolding seg
      heads_rise x low high =
          rise_run n (positives_from j r - j) j
          (subst (λ (xs : List Weighted). Linked (Rises n) 0 (atoms_of xs)) (sym w.heads) (ones_rise sound.heads))
          x
          low
          (omega arith)

      pub written_row : Row c n i
      unfolding positives_from
      written_row =
          record {
            heads = rw (w.heads_from, w.pos_from) heads_seg;
            literals = literals_seg;
            increasing = λ x low high. heads_rise x (omega (arith, w.heads_from)) (omega (arith, w.pos_from));
            need = rw w.need sound.need;
            single = λ t.
                let e : length r.heads ≡ 1 = sound.single (subst (λ (k : Kind). T (not (chooses k))) w.kind t) in
                omega (arith, w.heads_from, w.pos_from);
          }
