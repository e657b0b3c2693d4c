-- The smallest set that contains everything the rules give from it, computed, and with it a test for stable models: a set is stable
-- exactly when it equals the set that is derived from it.
use Prim.Native.Nat.{ℕ}
use mathlib.Core.Path.{◌≡◌, sym, subst}
use mathlib.Core.Logic.{⊎_elim}
use mathlib.Core.Bool.{Bool, true, false, not, ◌&&◌, ◌||◌, beq}
use mathlib.Core.List.{List, Memᴰ}
use native.Mathlib.Omega.{arith}
use lib.Dec.{T, leb, leb→le, le→leb, T_not}
use Rattle.rules.specs.Sum.{has}
use Rattle.rules.specs.Rule.{Rule, Weighted, Within, body, chooses}
use Rattle.rules.specs.Stable.{Set, outside, value, Gives, Contains, Below, Stable}
use Rattle.rules.proofs.Fits.{Fits}
use Rattle.rules.proofs.Tests.{and_T, T_and_left, T_and_right, T_or, or_left, or_right, T_same, beq_eq, eq_beq, has_mem, decided}
use Rattle.rules.proofs.Inside.{within?}
use Rattle.rules.proofs.Lists.{some, some_T, T_some, every, every_T, T_every, each, mem_each, down_from, within_up_to}
use Rattle.rules.proofs.Value.{by, value_mono}
use Rattle.rules.proofs.Fixpoint.{elements, smallest, smallest_closed, smallest_below, smallest_passes}

-- does the rule give the atom?
abbrev pub gives : Rule → Set → Set → ℕ → Bool
gives r S C a = has a r.heads && (leb r.need (value r C (outside S)) && (not (chooses r.kind) || S a))

pub gives_T : (r : Rule) (S C : Set) (a : ℕ) → T (gives r S C a) → Gives r S C a
gives_T r S C a t = record { head = T_and_left (has a r.heads) rest t; holds = leb→le r.need (value r C (outside S)) (T_and_left (leb r.need (value r C (outside S))) may tail); chosen = λ c. ⊎_elim (λ (s : T (not (chooses r.kind))). absurd (T_not (chooses r.kind) s c)) (λ (s : T (S a)). s) (T_or (not (chooses r.kind)) (S a) (T_and_right (leb r.need (value r C (outside S))) may tail)) }
  where
    may : Bool
    may = not (chooses r.kind) || S a

    rest : Bool
    rest = leb r.need (value r C (outside S)) && may

    tail : T rest
    tail = T_and_right (has a r.heads) rest t

pub T_gives : (r : Rule) (S C : Set) (a : ℕ) → Gives r S C a → T (gives r S C a)
T_gives r S C a g =
    and_T
    (has a r.heads)
    (leb r.need (value r C (outside S)) && (not (chooses r.kind) || S a))
    g.head
    (and_T
    (leb r.need (value r C (outside S)))
    (not (chooses r.kind) || S a)
    (le→leb r.need (value r C (outside S)) g.holds)
    (⊎_elim
    (λ (c : T (chooses r.kind)). or_right (not (chooses r.kind)) (S a) (g.chosen c))
    (λ (c : T (not (chooses r.kind))). or_left (not (chooses r.kind)) (S a) c)
    (decided (chooses r.kind))))

-- what a rule gives from a set, it gives from a larger one
pub gives_mono : (r : Rule) (S C C' : Set) → Below C C' → (a : ℕ) → Gives r S C a → Gives r S C' a
gives_mono r S C C' below a g =
    record {
      head = g.head;
      holds = omega (arith, g.holds, value_mono r C (outside S) C' (outside S) part);
      chosen = g.chosen;
    }
  where
    part : (s : Bool) (l : Weighted) → Memᴰ l (body r s) → T (by s C (outside S) l.atom) → T (by s C' (outside S) l.atom)
    part true l m t = below l.atom t
    part false l m t = t

module _ (P : List Rule) (S : Set) where
  -- does some rule give the atom from C?
  abbrev given : Set → ℕ → Bool
  given C a = some (λ r. gives r S C a) P

  given_mono : (C C' : Set) → Below C C' → (a : ℕ) → T (given C a) → T (given C' a)
  given_mono C C' below a t =
      let k = some_T (λ (r : Rule). gives r S C a) P t in
      T_some (λ r. gives r S C' a) k.1 (T_gives k.0 S C' a (gives_mono k.0 S C C' below a (gives_T k.0 S C a k.2)))

  abbrev candidates : List ℕ
  candidates = each (λ (r : Rule). r.heads) P

  -- the smallest set that contains what the rules give from it
  abbrev pub derived : Set
  derived = smallest given candidates

  among : (C : Set) (a : ℕ) → T (given C a) → Memᴰ a candidates
  among C a t =
      let k = some_T (λ (r : Rule). gives r S C a) P t in
      mem_each (λ (r : Rule). r.heads) k.1 (has_mem a k.0.heads (gives_T k.0 S C a k.2).head)

  pub derived_contains : Contains P S derived
  derived_contains r m a g =
      let t : T (given derived a) = T_some (λ q. gives q S derived a) m (T_gives r S derived a g) in
      smallest_closed given given_mono candidates a (among derived a t) t

  pub derived_below : (C : Set) → Contains P S C → Below derived C
  derived_below C c =
      smallest_below
      given
      given_mono
      candidates
      C
      (λ a m t. let k = some_T (λ (r : Rule). gives r S C a) P t in c k.0 k.1 a (gives_T k.0 S C a k.2))

  pub derived_given : (a : ℕ) → T (derived a) → (r : Rule) × Memᴰ r P × Gives r S derived a
  derived_given a t =
      let k = some_T (λ (r : Rule). gives r S derived a) P (smallest_passes given given_mono candidates among a t) in
      (k.0, k.1, gives_T k.0 S derived a k.2)

  -- "S is stable exactly when it equals the smallest C that contains everything the rules give from it"
  pub stable_derived : Stable P S → (a : ℕ) → S a ≡ derived a
  stable_derived st a = T_same (S a) (derived a) (st.smallest derived derived_contains a) (derived_below S st.contains a)

  pub derived_stable : ((a : ℕ) → S a ≡ derived a) → Stable P S
  derived_stable e =
      record {
        contains =
            λ r m a g.
            subst T (sym (e a)) (derived_contains r m a (gives_mono r S S derived (λ b t. subst T (e b) t) a g));
        smallest = λ C c a t. derived_below C c a (subst T (e a) t);
      }

-- is the list's set stable? A test that is computed
abbrev pub is_stable : List Rule → ℕ → List ℕ → Bool
is_stable P n S = every (λ a. beq (has a S) (derived P (elements S) a)) (down_from n)

module _ {n : ℕ} {P : List Rule} (fits : Fits n P) (S : List ℕ) (small : (a : ℕ) → T (has a S) → Within n a) where
  derived_within : (a : ℕ) → T (derived P (elements S) a) → Within n a
  derived_within a t =
      let k = derived_given P (elements S) a t in
      fits.head k.0 k.1 a k.2.head

  pub is_stable_T : T (is_stable P n S) → Stable P (elements S)
  is_stable_T t = derived_stable P (elements S) same
    where
      same : (a : ℕ) → has a S ≡ derived P (elements S) a
      same a =
          ⊎_elim
          (λ (w : Within n a).
          beq_eq (has a S) (derived P (elements S) a) (every_T (λ b. beq (has b S) (derived P (elements S) b)) (down_from n) t a (within_up_to n w)))
          (λ (o : Within n a → ⊥).
          T_same (has a S) (derived P (elements S) a) (λ h. absurd (o (small a h))) (λ h. absurd (o (derived_within a h))))
          (within? n a)

  pub T_is_stable : Stable P (elements S) → T (is_stable P n S)
  T_is_stable st =
      T_every
      (λ b. beq (has b S) (derived P (elements S) b))
      (down_from n)
      (λ a _. eq_beq (has a S) (derived P (elements S) a) (stable_derived P (elements S) st a))
