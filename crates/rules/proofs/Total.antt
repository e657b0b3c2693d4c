-- The in-atoms of a total closed map form a stable model, and the total map of a stable model is closed. On a total map sure and
-- reach both are the weight of the true literals, so rule 1 says that the set contains what the rules give, and rule 4 that it is
-- below every set that does; rules 2 and 3 have no undecided literal to speak of.
use Prim.Native.Nat.{ℕ, ◌≤◌}
use mathlib.Core.Path.{◌≡◌, sym, ◌∙◌, ap}
use mathlib.Core.Logic.{◌⊎◌, inl, inr, ⊎_elim}
use mathlib.Core.Bool.{Bool, true, false, not, ◌&&◌, cond}
use mathlib.Core.List.{List, Memᴰ}
use native.Mathlib.Omega.{arith}
use lib.Dec.{T, T_not}
use Rattle.rules.specs.Sum.{has}
use Rattle.rules.specs.Rule.{Rule, Weighted, Within, body, chooses}
use Rattle.rules.specs.Stable.{Set, outside, value, Contains, Stable}
use Rattle.rules.specs.Map.{Map, IsMap, inside, want, is, isnt, sure, total}
use Rattle.rules.specs.Forcing.{Closed, Grounds, Founded}
use Rattle.rules.proofs.Fits.{Fits}
use Rattle.rules.proofs.Tests.{eq_T, T_eq, ne_T, T_ne, and_T, T_and_left, T_and_right, T_true, T_false, decided}
use Rattle.rules.proofs.Inside.{inside_true, inside_false, within_inside, inside_within, within?}
use Rattle.rules.proofs.Value.{by, value_mono}
use Rattle.rules.proofs.Maps.{sides, decided_within, want_apart, want_decided}

-- the total map of a set
pub total_in : {n a : ℕ} (S : Set) → Within n a → T (S a) → total n S a ≡ 1
unfolding total
total_in {n} {a} S w t = ap (λ (b : Bool). cond b (cond (S a) 1 2) 0) (inside_true w) ∙ ap (λ (b : Bool). cond b 1 2) (T_true (S a) t)

pub total_out : {n a : ℕ} (S : Set) → Within n a → T (outside S a) → total n S a ≡ 2
unfolding total
total_out {n} {a} S w t =
    ap (λ (b : Bool). cond b (cond (S a) 1 2) 0) (inside_true w) ∙ ap (λ (b : Bool). cond b 1 2) (T_false (S a) (T_not (S a) t))

pub total_beyond : {n a : ℕ} (S : Set) → (Within n a → ⊥) → total n S a ≡ 0
unfolding total
total_beyond {n} {a} S o = ap (λ (b : Bool). cond b (cond (S a) 1 2) 0) (inside_false o)

-- a set has an atom or not
has_or_not : (S : Set) (a : ℕ) → T (S a) ⊎ T (outside S a)
has_or_not S a = decided (S a)

pub in_total : (n a : ℕ) (S : Set) → total n S a ≡ 1 → T (S a)
in_total n a S e = step (within? n a) (has_or_not S a)
  where
    step : Within n a ⊎ (Within n a → ⊥) → T (S a) ⊎ T (outside S a) → T (S a)
    step w (inl t) = t
    step (inl w) (inr t) = absurd (want_apart true (sym e ∙ total_out S w t))
    step (inr o) (inr t) = absurd (want_decided true (sym e ∙ total_beyond S o))

pub out_total : (n a : ℕ) (S : Set) → total n S a ≡ 2 → T (outside S a)
out_total n a S e = step (within? n a) (has_or_not S a)
  where
    step : Within n a ⊎ (Within n a → ⊥) → T (S a) ⊎ T (outside S a) → T (outside S a)
    step w (inr t) = t
    step (inl w) (inl t) = absurd (want_apart false (sym e ∙ total_in S w t))
    step (inr o) (inl t) = absurd (want_decided false (sym e ∙ total_beyond S o))

pub total_decided : {n a : ℕ} (S : Set) → Within n a → total n S a ≡ 0 → ⊥
total_decided {n} {a} S w e = step (has_or_not S a)
  where
    step : T (S a) ⊎ T (outside S a) → ⊥
    step (inl t) = want_decided true (sym (total_in S w t) ∙ e)
    step (inr t) = want_decided false (sym (total_out S w t) ∙ e)

pub total_map : (n : ℕ) (S : Set) → IsMap n (total n S)
unfolding total
total_map n S = record { sides = λ a. small (inside n a) (S a); beyond = λ a o. total_beyond S o }
  where
    small : (b c : Bool) → cond b (cond c 1 2) 0 ≤ 2
    small true true = omega arith
    small true false = omega arith
    small false c = omega arith

-- the atoms of a stable model are heads, so among the n
pub stable_within : {n : ℕ} {P : List Rule} {S : Set} → Fits n P → Stable P S → (a : ℕ) → T (S a) → Within n a
stable_within {n} {P} {S} fits st a t = inside_within n a (T_and_right (S a) (inside n a) (st.smallest inner contains a t))
  where
    inner : Set
    inner b = S b && inside n b

    part : (r : Rule) (s : Bool) (l : Weighted) → Memᴰ l (body r s) → T (by s inner (outside S) l.atom) → T (by s S (outside S) l.atom)
    part r true l m u = T_and_left (S l.atom) (inside n l.atom) u
    part r false l m u = u

    contains : Contains P S inner
    contains r m b g =
        and_T
        (S b)
        (inside n b)
        (st.contains
        r
        m
        b
        (record {
          head = g.head;
          holds = omega (arith, g.holds, value_mono r inner (outside S) S (outside S) (part r));
          chosen = g.chosen;
        }))
        (within_inside (fits.head r m b g.head))

module _ {n : ℕ} {P : List Rule} (fits : Fits n P) where
  module _ {M : Map} (x : Closed P n M) (all : (a : ℕ) → Within n a → M a ≡ 0 → ⊥) where
    -- an atom of the n that is not on one side is on the other
    other : (s : Bool) (a : ℕ) → Within n a → (M a ≡ want s → ⊥) → M a ≡ want (not s)
    other s a w o = step (sides (M a) (x.is_map.sides a) s)
      where
        step : (M a ≡ 0) ⊎ ((M a ≡ want s) ⊎ (M a ≡ want (not s))) → M a ≡ want (not s)
        step (inl e) = absurd (all a w e)
        step (inr (inl e)) = absurd (o e)
        step (inr (inr e)) = e

    abbrev S : Set
    S = is 1 M

    gives_in : Contains P S S
    gives_in r m a g = step (decided (chooses r.kind))
      where
        part : (s : Bool) (l : Weighted) → Memᴰ l (body r s) → T (by s S (outside S) l.atom) → T (by s (is 1 M) (is 2 M) l.atom)
        part true l i t = t
        part false l i t = eq_T (other true l.atom (fits.literal r m false l i) (T_ne t))

        step : T (chooses r.kind) ⊎ T (not (chooses r.kind)) → T (S a)
        step (inl c) = g.chosen c
        step (inr c) =
            eq_T (x.first r m c (omega (arith, g.holds, value_mono r S (outside S) (is 1 M) (is 2 M) part)) a g.head)

    below_all : (C : Set) → Contains P S C → (a : ℕ) → T (S a) → T (C a)
    below_all C c a t =
        T_and_left
        (C a)
        (S a)
        (x.fourth a (decided_within x.is_map true a (T_eq t)) (λ o. want_apart true (sym (T_eq t) ∙ o)) inner grounds)
      where
        inner : Set
        inner b = C b && S b

        part : (r : Rule) (s : Bool) (l : Weighted) → Memᴰ l (body r s) → T (by s inner (isnt 1 M) l.atom) → T (by s C (outside S) l.atom)
        part r true l i u = T_and_left (C l.atom) (S l.atom) u
        part r false l i u = u

        grounds : Grounds P M inner
        grounds =
            record {
              none_out = λ b u e. want_apart true (sym (T_eq (T_and_right (C b) (S b) u)) ∙ e);
              holds_heads =
                  λ r m b h o k.
                  let given_in : T (S b) = eq_T (other false b (fits.head r m b h) o) in
                  and_T
                  (C b)
                  (S b)
                  (c r m b (record { head = h; holds = omega (arith, k, value_mono r inner (isnt 1 M) C (outside S) (part r)); chosen = λ _. given_in }))
                  given_in;
            }

    pub closed_stable : Stable P (is 1 M)
    closed_stable = record { contains = gives_in; smallest = below_all }

  module _ {S : Set} (st : Stable P S) where
    abbrev M : Map
    M = total n S

    first_holds :
        (r : Rule) → Memᴰ r P → T (not (chooses r.kind)) → r.need ≤ sure r M → (a : ℕ) → T (has a r.heads) → M a ≡ 1
    first_holds r m c k a h = total_in S (fits.head r m a h) (st.contains r m a (record { head = h; holds = holds; chosen = λ t. absurd (T_not (chooses r.kind) c t) }))
      where
        part : (s : Bool) (l : Weighted) → Memᴰ l (body r s) → T (by s (is 1 M) (is 2 M) l.atom) → T (by s S (outside S) l.atom)
        part true l i t = in_total n l.atom S (T_eq t)
        part false l i t = out_total n l.atom S (T_eq t)

        holds : r.need ≤ value r S (outside S)
        holds = omega (arith, k, value_mono r (is 1 M) (is 2 M) S (outside S) part)

    founded : (a : ℕ) → Within n a → (M a ≡ 2 → ⊥) → Founded P M a
    founded a w o C g = st.smallest C contains a (⊎_elim (λ (t : T (S a)). t) (λ t. absurd (o (total_out S w t))) (has_or_not S a))
      where
        given_in : (b : ℕ) → Within n b → T (C b) → T (S b)
        given_in b v t = ⊎_elim (λ (u : T (S b)). u) (λ u. absurd (g.none_out b t (total_out S v u))) (has_or_not S b)

        contains : Contains P S C
        contains r m b gv = g.holds_heads r m b gv.head not_out (omega (arith, gv.holds, value_mono r C (outside S) C (isnt 1 M) reaching))
          where
            reaching : (s : Bool) (l : Weighted) → Memᴰ l (body r s) → T (by s C (outside S) l.atom) → T (by s C (isnt 1 M) l.atom)
            reaching true l i t = t
            reaching false l i t = ne_T (λ e. T_not (S l.atom) t (in_total n l.atom S e))

            holding : (s : Bool) (l : Weighted) → Memᴰ l (body r s) → T (by s C (outside S) l.atom) → T (by s S (outside S) l.atom)
            holding true l i t = given_in l.atom (fits.literal r m true l i) t
            holding false l i t = t

            given : T (S b)
            given =
                st.contains
                r
                m
                b
                (record {
                  head = gv.head;
                  holds = omega (arith, gv.holds, value_mono r C (outside S) S (outside S) holding);
                  chosen = gv.chosen;
                })

            not_out : M b ≡ 2 → ⊥
            not_out e = T_not (S b) (out_total n b S e) given

    pub stable_closed : Closed P n (total n S)
    stable_closed =
        record {
          is_map = total_map n S;
          first = first_holds;
          second = λ a e r m t o s l i z k. total_decided S (fits.literal r m s l i) z;
          third = λ r m c a h e s l i z k. total_decided S (fits.literal r m s l i) z;
          fourth = founded;
        }
