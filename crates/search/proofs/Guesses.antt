-- A guess written on a closed map and closed again: the maps above the written map are those above the old one that have the
-- guessed literal, and a closed map above it has fewer undecided atoms, since the guessed one was undecided.
use Prim.Native.Nat.{ℕ, zero, suc, ◌+◌, ◌-◌, ◌≤◌, ◌<◌}
use mathlib.Core.Path.{◌≡◌, sym, ◌∙◌, ap, subst}
use mathlib.Core.Logic.{◌⊎◌, inl, inr}
use mathlib.Core.Bool.{Bool, true, false}
use mathlib.Core.List.{List, [], ◌∷◌}
use native.Mathlib.Omega.{arith}
use lib.ListN.{length, get_or, take, set}
use lib.Dec.{eqb}
use Rattle.rules.specs.Sum.{tally}
use Rattle.rules.specs.Map.{Map, Over, side, signed, want, ◌⊑◌, undecided}
use Rattle.rules.specs.Inner.Bytes.{MapBytes}
use Rattle.rules.proofs.Tests.{eq_T, T_eq}
use Rattle.rules.proofs.Sum.{counted_mono}
use Rattle.rules.proofs.Maps.{sides, want_decided}
use Rattle.rules.proofs.Bytes.{side_index, over_written, written_over}
use Rattle.rules.proofs.Least.{least_same, contradiction_same}
use Rattle.weigh.proofs.Bytes.{proper_put, fewer_put, proper_map}
use Rattle.forcing.specs.Inner.Rounds.{ClosesMap}
use Rattle.std.specs.Prelude.{Ok, Err}
use Rattle.weigh.specs.declared.Clash.{Clash}
use Rattle.table.specs.Inner.Rows.{Laid}
use Rattle.search.specs.Inner.Search.{Open, Tries}
use Rattle.search.proofs.Branches.{within, lowest_low}

zeros_mono :
    (n : ℕ) (p q : List ℕ) → n ≤ length p → n ≤ length q → ((i : ℕ) → i < n → get_or q i 0 ≡ 0 → get_or p i 0 ≡ 0)
    → tally (λ b. eqb b 0) (λ _. 1) (take n q) ≤ tally (λ b. eqb b 0) (λ _. 1) (take n p)
unfolding tally
zeros_mono zero p q hp hq f = omega arith
zeros_mono (suc n) [] q hp hq f = absurd (omega (arith, hp))
zeros_mono (suc n) (x ∷ xs) [] hp hq f = absurd (omega (arith, hq))
zeros_mono (suc n) (x ∷ xs) (y ∷ ys) hp hq f =
    omega (
      arith,
      counted_mono (eqb y 0) (eqb x 0) 1 (λ t. eq_T (f 0 (omega arith) (T_eq t))),
      zeros_mono
          n
          xs
          ys
          (omega (arith, hp))
          (omega (arith, hq))
          (λ i h. f (suc i) (omega (arith, h))),
    )

-- a map above another has no more undecided atoms
fewer_above : (n : ℕ) (m m' : List ℕ) → MapBytes n m → MapBytes n m' → side n m ⊑ side n m' → undecided n m' ≤ undecided n m
unfolding undecided
fewer_above n m m' p p' f = zeros_mono n m m' p.room p'.room back
  where
    back : (i : ℕ) → i < n → get_or m' i 0 ≡ 0 → get_or m i 0 ≡ 0
    back i h z = step (sides (side n m (i + 1)) ((proper_map n m p).sides (i + 1)) true)
      where
        zero' : side n m' (i + 1) ≡ 0
        zero' = side_index n m' i h ∙ z

        step : (side n m (i + 1) ≡ 0) ⊎ ((side n m (i + 1) ≡ 1) ⊎ (side n m (i + 1) ≡ 2)) → get_or m i 0 ≡ 0
        step (inl e) = sym (side_index n m i h) ∙ e
        step (inr (inl e)) = absurd (want_decided true (sym (f.keeps true (i + 1) e) ∙ zero'))
        step (inr (inr e)) = absurd (want_decided false (sym (f.keeps false (i + 1) e) ∙ zero'))

module _ {c : List ℕ} {n count : ℕ} (laid : Laid c n count) {m : List ℕ} {i : ℕ} (op : Open c n count m i) (s : Bool) (v : ℕ) (is : v ≡ want s) where
  abbrev written : List ℕ
  written = set m (i + 1 - 1) (want s)

  -- the byte that the code writes
  same : written ≡ set m i v
  same = ap (λ (k : ℕ). set m k (want s)) (omega arith) ∙ ap (λ (x : ℕ). set m i x) (sym is)

  small : want s ≤ 2
  small = by s
    where
      by : (t : Bool) → want t ≤ 2
      by true = omega arith
      by false = omega arith

  pub guess_proper : MapBytes n (set m i v)
  guess_proper =
      subst (MapBytes n) same (proper_put n m (i + 1) (want s) (within laid op) small op.stands.proper)

  asked : (X : Map) → side n (set m i v) ⊑ X → Over (side n m) (signed s (i + 1) ∷ []) X
  asked X f =
      over_written n m (i + 1) (within laid op) op.stands.proper.room s (lowest_low laid op).undecided X
      (subst (λ (l : List ℕ). side n l ⊑ X) (sym same) f)

  answered : (X : Map) → Over (side n m) (signed s (i + 1) ∷ []) X → side n (set m i v) ⊑ X
  answered X q =
      subst (λ (l : List ℕ). side n l ⊑ X) same
      (written_over n m (i + 1) (within laid op) op.stands.proper.room s (lowest_low laid op).undecided X q)

  fewer : undecided n (set m i v) < undecided n m
  fewer =
      subst
      (λ (l : List ℕ). undecided n l < undecided n m)
      same
      (fewer_put
      n
      m
      (i + 1)
      (want s)
      (within laid op)
      op.stands.proper.room
      (lowest_low laid op).undecided
      (λ e. want_decided s e))

  pub guess_none : {m' : List ℕ} {e e' : Clash} → ClosesMap c n count (set m i v) m' (Err e) → Tries c n count m (i + 1) s (Err e')
  guess_none k =
      record {
        tried =
            contradiction_same
            (λ X. side n (set m i v) ⊑ X)
            (Over (side n m) (signed s (i + 1) ∷ []))
            answered
            k.answers;
      }

  pub guess_closed :
      {m' : List ℕ} {k : ℕ} → ClosesMap c n count (set m i v) m' (Ok k) → Tries c n count m (i + 1) s (Ok m')
  guess_closed {m'} t =
      record {
        tried =
            record {
              least =
                  least_same (λ X. side n (set m i v) ⊑ X) (Over (side n m) (signed s (i + 1) ∷ [])) asked answered t.answers.0;
              proper = t.kept.proper;
              fewer =
                  omega
                  (arith, fewer, fewer_above n (set m i v) m' guess_proper t.kept.proper t.answers.0.holding);
            };
      }
