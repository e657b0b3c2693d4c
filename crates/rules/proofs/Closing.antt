-- Closing a map, computed: while a conclusion is not held, it is written, or it clashes. Each is forced, so the end is the least
-- closed map above the start, or there is none; and each takes an undecided atom, so there are no more rounds than those.
use Prim.Native.Nat.{ℕ, zero, suc, ◌+◌, ◌-◌, ◌≤◌, ◌<◌}
use mathlib.Core.Path.{◌≡◌, refl, sym, ◌∙◌, subst, ap}
use mathlib.Core.Logic.{◌⊎◌, inl, inr, ⊎_elim}
use mathlib.Core.Bool.{Bool, true, false, not}
use mathlib.Core.List.Memᴰ
use mathlib.Core.List.{List, [], ◌∷◌, Memᴰ}
use native.Mathlib.Omega.{arith}
use native.Mathlib.Nat.{not-suc-le-zero}
use lib.ListN.{length, set, length-set}
use lib.Dec.{T, eqb}
use Rattle.rules.specs.Sum.{tally}
use Rattle.rules.specs.Rule.{Rule, Within}
use Rattle.rules.specs.Map.{Map, Literal, Holding, IsMap, side, want, ◌⊑◌}
use Rattle.rules.specs.Forcing.{Closed, Least, Contradiction}
use Rattle.rules.specs.Shown.Paper.{those}
use Rattle.rules.proofs.Fits.{Fits}
use Rattle.rules.proofs.Tests.{eq_T, T_eq, ne_T, T_ne, decided}
use Rattle.rules.proofs.Sum.{tally_more}
use Rattle.rules.proofs.Lists.{down_from, within_up_to, those_mem, mem_those}
use Rattle.rules.proofs.Maps.{sides, want_decided, want_apart, ⊑_refl, ⊑_trans}
use Rattle.rules.proofs.Bytes.{written_same, written_other, written_above, written_below, written_map}
use Rattle.rules.proofs.Concluding.{conclusions, concluded, conclusion_within, all_held}

-- how many of the n atoms are undecided, by the side of each
abbrev pub open_count : ℕ → List ℕ → ℕ
open_count n m = tally (λ a. eqb (side n m a) 0) (λ _. 1) (down_from n)

pub data Ending : Type 0 where
  closed_at : List ℕ → Ending
  clash : Ending

abbrev unheld : Map → Literal → Bool
unheld M c = not (eqb (M c.atom) (want c.sign))

abbrev write : List ℕ → Literal → List ℕ
write m c = set m (c.atom - 1) (want c.sign)

abbrev if_open : Bool → (Literal → Ending) → Literal → Ending
if_open true f c = f c
if_open false f c = clash

abbrev next : ℕ → List ℕ → List Literal → (Literal → Ending) → Ending
next n m [] f = closed_at m
next n m (c ∷ cs) f = if_open (eqb (side n m c.atom) 0) f c

-- a byte written on an undecided atom leaves one undecided atom less
pub undecided_falls :
    (n : ℕ) (m : List ℕ) (a : ℕ) → Within n a → n ≤ length m → (s : Bool) → side n m a ≡ 0
    → open_count n (set m (a - 1) (want s)) + 1 ≤ open_count n m
undecided_falls n m a w long s z =
    tally_more
    (λ b. eqb (side n (set m (a - 1) (want s)) b) 0)
    (λ b. eqb (side n m b) 0)
    (λ _. 1)
    (down_from n)
    (λ b _ t. fewer b (T_eq t) (decided (eqb b a)))
    a
    (within_up_to n w)
    (ne_T (λ e. want_decided s (sym (written_same n m a w long (want s)) ∙ e)))
    (eq_T z)
  where
    fewer : (b : ℕ) → side n (set m (a - 1) (want s)) b ≡ 0 → T (eqb b a) ⊎ T (not (eqb b a)) → T (eqb (side n m b) 0)
    fewer b e (inl q) = eq_T (ap (side n m) (T_eq {a = b} {b = a} q) ∙ z)
    fewer b e (inr q) = eq_T (sym (written_other n m a w long (want s) b (T_ne q)) ∙ e)

module _ (P : List Rule) (n : ℕ) where
  -- the conclusions that a map does not hold yet
  abbrev news : List ℕ → List Literal
  news m = those (unheld (side n m)) (conclusions P n (side n m))

  unfoldable pub closing : ℕ → List ℕ → Ending
  closing zero m = clash
  closing (suc k) m = next n m (news m) (λ c. closing k (write m c))

  -- what the answer says of the map that it was made from
  abbrev pub Right : List ℕ → Ending → Type 0
  Right m (closed_at m') = Least (Closed P n) (λ X. side n m ⊑ X) (side n m') × (length m' ≡ length m)
  Right m clash = Contradiction (Closed P n) (λ X. side n m ⊑ X)

  module _ (fits : Fits n P) where
    module _ (m : List ℕ) (mp : IsMap n (side n m)) (long : n ≤ length m) where
      abbrev M : Map
      M = side n m

      quiet : news m ≡ [] → Closed P n M
      quiet e = all_held P n M fits mp held
        where
          held : Holding (conclusions P n M) M
          held c i =
              ⊎_elim
              (λ (t : T (eqb (M c.atom) (want c.sign))). T_eq t)
              (λ (t : T (unheld M c)). absurd (Memᴰ.not-nil (subst (Memᴰ c) e (mem_those (unheld M) i t))))
              (decided (eqb (M c.atom) (want c.sign)))

      module _ (c : Literal) (i : Memᴰ c (news m)) where
        from : Memᴰ c (conclusions P n M)
        from = (those_mem (unheld M) (conclusions P n M) i).0

        within : Within n c.atom
        within = conclusion_within P n M fits c from

        opposed : (M c.atom ≡ 0 → ⊥) → Contradiction (Closed P n) (λ X. M ⊑ X)
        opposed o X x f = step (sides (M c.atom) (mp.sides c.atom) c.sign)
          where
            step : (M c.atom ≡ 0) ⊎ ((M c.atom ≡ want c.sign) ⊎ (M c.atom ≡ want (not c.sign))) → ⊥
            step (inl e) = o e
            step (inr (inl e)) = T_ne (those_mem (unheld M) (conclusions P n M) i).1 e
            step (inr (inr e)) =
                want_apart
                c.sign
                (sym (concluded P n M fits f x c from) ∙ f.keeps (not c.sign) c.atom e)

        module _ (z : M c.atom ≡ 0) where
          on : (X : Map) → Closed P n X → M ⊑ X → side n (write m c) ⊑ X
          on X x f = written_below n m c.atom within long (want c.sign) X f (concluded P n M fits f x c from)

          onward : (e : Ending) → Right (write m c) e → Right m e
          onward (closed_at m') r = (
            record {
              closed = r.0.closed;
              holding = ⊑_trans (written_above n m c.atom within long (want c.sign) z) r.0.holding;
              below = λ X x f. r.0.below X x (on X x f);
            },
            r.1 ∙ length-set m (c.atom - 1) (want c.sign),
          )
          onward clash r = λ X x f. r X x (on X x f)

    pub closing_right :
        (k : ℕ) (m : List ℕ) → IsMap n (side n m) → n ≤ length m → open_count n m < k → Right m (closing k m)
    unfolding closing
    closing_right zero m mp long few = absurd (not-suc-le-zero few)
    closing_right (suc k) m mp long few = step (news m) refl (closing_right k)
      where
        go :
            (c : Literal) → Memᴰ c (news m) → (b : Bool) → eqb (side n m c.atom) 0 ≡ b
            → ((q : List ℕ) → IsMap n (side n q) → n ≤ length q → open_count n q < k → Right q (closing k q))
            → Right m (if_open b (λ d. closing k (write m d)) c)
        go c i true e rec =
            let z : side n m c.atom ≡ 0 = T_eq (subst T (sym e) tt) in
            let w : Within n c.atom = within m mp long c i in
            onward
            m
            mp
            long
            c
            i
            z
            (closing k (write m c))
            (rec
            (write m c)
            (written_map n m c.atom w long c.sign mp)
            (omega (arith, length-set m (c.atom - 1) (want c.sign), long))
            (omega (arith, undecided_falls n m c.atom w long c.sign z, few)))
        go c i false e rec = opposed m mp long c i (λ z. subst T e (eq_T z))

        step :
            (cs : List Literal) → news m ≡ cs
            → ((q : List ℕ) → IsMap n (side n q) → n ≤ length q → open_count n q < k → Right q (closing k q))
            → Right m (next n m cs (λ c. closing k (write m c)))
        step [] e rec =
            (record { closed = quiet m mp long e; holding = ⊑_refl (side n m); below = λ X x f. f }, refl)
        step (c ∷ cs) e rec =
            go c (subst (Memᴰ c) (sym e) (Memᴰ.head refl)) (eqb (side n m c.atom) 0) refl rec
