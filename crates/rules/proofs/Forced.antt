-- What a forcing rule concludes from a map M holds in every closed map X above M: sure only grows and reach only falls from M to X,
-- so X meets the same rule's premise, and the other side of the literal would break another rule of X. Rule 2 needs rule 4: an
-- atom that is in is founded, so some rule supports it in X, and that is the one rule that supports it in M, however often it stands.
use Prim.Native.Nat.{ℕ, ◌+◌, ◌≤◌, ◌<◌}
use mathlib.Core.Path.{◌≡◌, refl, sym, ◌∙◌, subst}
use mathlib.Core.Logic.{◌⊎◌, inl, inr, ⊎_elim}
use mathlib.Core.Bool.{Bool, true, false, not, ◌&&◌}
use mathlib.Core.List.{List, Memᴰ}
use native.Mathlib.Omega.{arith}
use lib.Dec.{T, eqb, leb, leb→le, le→leb}
use Rattle.rules.specs.Sum.{has}
use Rattle.rules.specs.Rule.{Rule, Weighted, Within, body, chooses}
use Rattle.rules.specs.Stable.{Set, value}
use Rattle.rules.specs.Map.{Map, want, isnt, sure, reach, ◌⊑◌}
use Rattle.rules.specs.Forcing.{Closed, Grounds, Founded, supports, Only}
use Rattle.rules.proofs.Tests.{ne_T, T_ne, and_T, T_and_left, T_and_right}
use Rattle.rules.proofs.Sum.{find, count, count_one}
use Rattle.rules.proofs.Value.{by, value_mono}
use Rattle.rules.proofs.Maps.{sides, decided_within, want_apart, want_decided, sure_grows, reach_falls, sure_more, reach_less}

-- the test of a supporter, in its two parts
pub supports_head : (a : ℕ) (M : Map) (r : Rule) → T (supports a M r) → T (has a r.heads)
supports_head a M r t = T_and_left (has a r.heads) (leb r.need (reach r M)) t

pub supports_reach : (a : ℕ) (M : Map) (r : Rule) → T (supports a M r) → r.need ≤ reach r M
supports_reach a M r t = leb→le r.need (reach r M) (T_and_right (has a r.heads) (leb r.need (reach r M)) t)

pub to_supports : (a : ℕ) (M : Map) (r : Rule) → T (has a r.heads) → r.need ≤ reach r M → T (supports a M r)
to_supports a M r h l = and_T (has a r.heads) (leb r.need (reach r M)) h (le→leb r.need (reach r M) l)

-- a founded atom has a supporter: without one, the atoms not out but for it would be grounds
pub supporter : (P : List Rule) (M : Map) (a : ℕ) → Founded P M a → (r : Rule) × Memᴰ r P × T (supports a M r)
supporter P M a fa = ⊎_elim (λ f. f) (λ none. absurd (T_ne {a = a} {b = a} (T_and_right (isnt 2 M a) (not (eqb a a)) (fa others (grounds none))) refl)) (find (supports a M) P)
  where
    others : Set
    others b = isnt 2 M b && not (eqb b a)

    below : (r : Rule) → value r others (isnt 1 M) ≤ reach r M
    below r = value_mono r others (isnt 1 M) (isnt 2 M) (isnt 1 M) part
      where
        part : (s : Bool) (l : Weighted) → Memᴰ l (body r s) → T (by s others (isnt 1 M) l.atom) → T (by s (isnt 2 M) (isnt 1 M) l.atom)
        part true l m t = T_and_left (isnt 2 M l.atom) (not (eqb l.atom a)) t
        part false l m t = t

    grounds : ((r : Rule) → Memᴰ r P → T (supports a M r) → ⊥) → Grounds P M others
    grounds none =
        record {
          none_out = λ b t e. T_ne (T_and_left (isnt 2 M b) (not (eqb b a)) t) e;
          holds_heads =
              λ r m b h o k.
              and_T
              (isnt 2 M b)
              (not (eqb b a))
              (ne_T o)
              (ne_T
              (λ e. none r m (to_supports a M r (subst (λ (x : ℕ). T (has x r.heads)) e h) (omega (arith, below r, k)))));
        }

module _ {P : List Rule} {n : ℕ} {M X : Map} (f : M ⊑ X) (x : Closed P n X) where
  pub forced_first :
      (r : Rule) → Memᴰ r P → T (not (chooses r.kind)) → r.need ≤ sure r M → (a : ℕ) → T (has a r.heads) → X a ≡ 1
  forced_first r m c k a h = x.first r m c (omega (arith, sure_grows f r, k)) a h

  pub forced_third :
      (r : Rule) → Memᴰ r P → T (not (chooses r.kind)) → (a : ℕ) → T (has a r.heads) → M a ≡ 2
      → (s : Bool) (l : Weighted) → Memᴰ l (body r s) → M l.atom ≡ 0 → r.need ≤ sure r M + l.weight
      → X l.atom ≡ want (not s)
  forced_third r m c a h o s l i z k = step (sides (X l.atom) (x.is_map.sides l.atom) s)
    where
      out_x : X a ≡ 2
      out_x = f.keeps false a o

      step : (X l.atom ≡ 0) ⊎ ((X l.atom ≡ want s) ⊎ (X l.atom ≡ want (not s))) → X l.atom ≡ want (not s)
      step (inl e) = absurd (x.third r m c a h out_x s l i e (omega (arith, sure_grows f r, k)))
      step (inr (inl e)) =
          absurd (want_apart true (sym (x.first r m c (omega (arith, sure_more f r s l i z e, k)) a h) ∙ out_x))
      step (inr (inr e)) = e

  -- a supporter in X is one in M
  supports_back : (a : ℕ) (r : Rule) → T (supports a X r) → T (supports a M r)
  supports_back a r t = to_supports a M r (supports_head a X r t) (omega (arith, reach_falls f r, supports_reach a X r t))

  pub forced_second :
      (a : ℕ) → M a ≡ 1 → (r : Rule) → Memᴰ r P → T (supports a M r) → Only P a M r
      → (s : Bool) (l : Weighted) → Memᴰ l (body r s) → M l.atom ≡ 0 → reach r M < r.need + l.weight
      → X l.atom ≡ want s
  forced_second a e1 r m t only s l i z k = go (supporter P X a (x.fourth a within not_out))
    where
      in_x : X a ≡ 1
      in_x = f.keeps true a e1

      not_out : X a ≡ 2 → ⊥
      not_out o = want_apart true (sym in_x ∙ o)

      within : Within n a
      within = decided_within x.is_map true a in_x

      go : (r' : Rule) × Memᴰ r' P × T (supports a X r') → X l.atom ≡ want s
      go g = step (sides (X l.atom) (x.is_map.sides l.atom) s)
        where
          same : g.0 ≡ r
          same = only g.0 g.1 (supports_back a g.0 g.2)

          here : T (supports a X r)
          here = subst (λ (q : Rule). T (supports a X q)) same g.2

          only_x : Only P a X r
          only_x q among u = only q among (supports_back a q u)

          step : (X l.atom ≡ 0) ⊎ ((X l.atom ≡ want s) ⊎ (X l.atom ≡ want (not s))) → X l.atom ≡ want s
          step (inl e) = absurd (x.second a in_x r m here only_x s l i e (omega (arith, reach_falls f r, k)))
          step (inr (inl e)) = e
          step (inr (inr e)) = absurd (omega (arith, reach_less f r s l i z e, supports_reach a X r here, k))

  -- what is founded in the larger map is founded in the smaller
  pub founded_back : (a : ℕ) → Founded P X a → Founded P M a
  founded_back a fa C g = T_and_left (C a) (isnt 2 X a) (fa inner grounds)
    where
      inner : Set
      inner b = C b && isnt 2 X b

      less : (r : Rule) → value r inner (isnt 1 X) ≤ value r C (isnt 1 M)
      less r = value_mono r inner (isnt 1 X) C (isnt 1 M) part
        where
          part : (s : Bool) (l : Weighted) → Memᴰ l (body r s) → T (by s inner (isnt 1 X) l.atom) → T (by s C (isnt 1 M) l.atom)
          part true l m t = T_and_left (C l.atom) (isnt 2 X l.atom) t
          part false l m t = ne_T (λ e. T_ne t (f.keeps true l.atom e))

      grounds : Grounds P X inner
      grounds =
          record {
            none_out = λ b t e. T_ne (T_and_right (C b) (isnt 2 X b) t) e;
            holds_heads =
                λ r m b h o k.
                and_T
                (C b)
                (isnt 2 X b)
                (g.holds_heads r m b h (λ e. o (f.keeps false b e)) (omega (arith, less r, k)))
                (ne_T o);
          }

  pub forced_fourth : (a : ℕ) → Within n a → (Founded P M a → ⊥) → X a ≡ 2
  forced_fourth a w nf = step (sides (X a) (x.is_map.sides a) false)
    where
      no_other_law : (X a ≡ 2 → ⊥) → ⊥
      no_other_law o = nf (founded_back a (x.fourth a w o))

      step : (X a ≡ 0) ⊎ ((X a ≡ 2) ⊎ (X a ≡ 1)) → X a ≡ 2
      step (inl e) = absurd (no_other_law (λ o. want_decided false (sym o ∙ e)))
      step (inr (inl e)) = e
      step (inr (inr e)) = absurd (no_other_law (λ o. want_apart false (sym o ∙ e)))

-- where one rule alone, counted as often as each stands, supports an atom, it is the only one: so rule 2 forces at least what it did when
-- it counted so
pub one_only :
    (P : List Rule) (a : ℕ) (M : Map) (r : Rule) → Memᴰ r P → T (supports a M r) → count (supports a M) P ≡ 1 → Only P a M r
one_only P a M r m t one q n u = count_one (supports a M) P (omega (arith, one)) q r n m u t
