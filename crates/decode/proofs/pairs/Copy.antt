-- A list is copied pair by pair: what is left of it, written from here on, is the whole list written from where it began.
use Prim.Native.Nat.{ℕ, suc, ◌+◌, ◌*◌, ◌≤◌}
use mathlib.Core.Path.{◌≡◌, refl, sym, ◌∙◌, ap, ap₂, subst}
use mathlib.Core.List.{List, [], ◌∷◌}
use native.Mathlib.Omega.{arith}
use lib.ListN.{length}
use Rattle.rules.specs.Rule.{Weighted, ones}
use Rattle.table.specs.Inner.Words.{pair_width}
use Rattle.repeats.specs.Inner.Marks.{atoms_mark}
use Rattle.decode.specs.Inner.Pairs.{with_pairs, PairsFit, PairsCopied, ListCopied}
use Rattle.decode.specs.declared.pairs.Reached.{Reached}
use Rattle.decode.proofs.pairs.Laws.{pair_long, pairs_long}

pub record PairsLeft (c₀ : List ℕ) (j₀ : ℕ) (ls₀ : List Weighted) (c : List ℕ) (j : ℕ) (ls : List Weighted) : Type 0 where
  pub code : with_pairs c j ls ≡ with_pairs c₀ j₀ ls₀
  pub end : j + length ls ≡ j₀ + length ls₀
  pub long : length c ≡ length c₀

pub pairs_begin : {c : List ℕ} {j : ℕ} {ls ms : List Weighted} → ms ≡ ls → PairsLeft c j ls c j ms
pairs_begin {c} {j} e = record { code = ap (with_pairs c j) e; end = ap (λ (ls : List Weighted). j + length ls) e; long = refl }

module _ {c₀ : List ℕ} {j₀ : ℕ} {ls₀ : List Weighted} {c : List ℕ} {j : ℕ} {ls : List Weighted} (left : PairsLeft c₀ j₀ ls₀ c j ls) where
  pub left_done : ls ≡ [] → PairsCopied c₀ j₀ ls₀ c j
  unfolding with_pairs
  left_done e =
      record {
        code = sym (ap (with_pairs c j) e) ∙ left.code;
        end = let z : length ls ≡ 0 = ap length e in omega (arith, left.end);
      }

  module _ {l : Weighted} {ms : List Weighted} (e : ls ≡ l ∷ ms) where
    pub left_room : PairsFit c₀ j₀ ls₀ → pair_width * (j + 1) ≤ length c
    unfolding pair_width
    left_room asks = let z : length ls ≡ suc (length ms) = ap length e in omega (arith, left.end, left.long, asks.room)

    pub left_turn : {d : List ℕ} {k : ℕ} → PairsCopied c j (l ∷ []) d k → PairsLeft c₀ j₀ ls₀ d k ms
    unfolding with_pairs
    left_turn {d} {k} w =
        let z : length ls ≡ suc (length ms) = ap length e in
        record {
          code = ap₂ (λ (x : List ℕ) (m : ℕ). with_pairs x m ms) w.code w.end ∙ sym (ap (with_pairs c j) e) ∙ left.code;
          end = omega (arith, left.end, w.end);
          long = ap length w.code ∙ pair_long c j l.atom l.weight ∙ left.long;
        }

-- the same of a list that is equal
pub asks_as : {c : List ℕ} {j : ℕ} {ls ms : List Weighted} → ls ≡ ms → PairsFit c j ls → PairsFit c j ms
asks_as {c} {j} e h = subst (PairsFit c j) e h

pub copied_as : {c d : List ℕ} {j k : ℕ} {ls ms : List Weighted} → ls ≡ ms → PairsCopied c j ms d k → PairsCopied c j ls d k
copied_as {c} {d} {j} {k} e h = subst (λ (xs : List Weighted). PairsCopied c j xs d k) (sym e) h

pub list_as :
    {c d : List ℕ} {j m n before : ℕ} {xs ys : List ℕ} {end : Reached} → xs ≡ ys → m ≡ n → ListCopied c j xs m before d end
    → ListCopied c j ys n before d end
list_as {before = before} e f h =
    record { pairs = copied_as (ap ones (sym e)) h.pairs; next = h.next ∙ f; mark = h.mark ∙ ap (atoms_mark before) e }

pub copied_long : {c d : List ℕ} {j k : ℕ} {ls : List Weighted} → PairsCopied c j ls d k → length d ≡ length c
copied_long {c} {j = j} {ls = ls} h = ap length h.code ∙ pairs_long c j ls
