-- Rule 4's set U, computed: it is grounds, and it is below every other grounds, so its atoms are the founded ones.
use Prim.Native.Nat.{ℕ, ◌≤◌}
use mathlib.Core.Bool.{Bool, true, false, ◌&&◌}
use mathlib.Core.List.{List, Memᴰ}
use native.Mathlib.Omega.{arith}
use lib.Dec.{T, leb, leb→le, le→leb}
use Rattle.rules.specs.Sum.{has}
use Rattle.rules.specs.Rule.{Rule, Weighted, body}
use Rattle.rules.specs.Stable.{Set, value, Below}
use Rattle.rules.specs.Map.{Map, isnt}
use Rattle.rules.specs.Forcing.{Grounds, Founded}
use Rattle.rules.proofs.Fits.{Fits}
use Rattle.rules.proofs.Tests.{and_T, T_and_left, T_and_right, ne_T, T_ne}
use Rattle.rules.proofs.Lists.{some, some_T, T_some, down_from, within_up_to}
use Rattle.rules.proofs.Value.{by, value_mono}
use Rattle.rules.proofs.Fixpoint.{smallest, smallest_closed, smallest_below, smallest_passes}

-- has the rule this head, and does its reach meet its need with positive atoms counted only if in C?
abbrev pub grants : Map → Set → ℕ → Rule → Bool
grants M C a r = has a r.heads && leb r.need (value r C (isnt 1 M))

module _ (P : List Rule) (M : Map) where
  abbrev granted : Set → ℕ → Bool
  granted C a = isnt 2 M a && some (grants M C a) P

  granted_mono : (C C' : Set) → Below C C' → (a : ℕ) → T (granted C a) → T (granted C' a)
  granted_mono C C' below a t = and_T (isnt 2 M a) (some (grants M C' a) P) (T_and_left (isnt 2 M a) (some (grants M C a) P) t) (T_some (grants M C' a) k.1 more)
    where
      k : (r : Rule) × Memᴰ r P × T (grants M C a r)
      k = some_T (grants M C a) P (T_and_right (isnt 2 M a) (some (grants M C a) P) t)

      part : (s : Bool) (l : Weighted) → Memᴰ l (body k.0 s) → T (by s C (isnt 1 M) l.atom) → T (by s C' (isnt 1 M) l.atom)
      part true l m u = below l.atom u
      part false l m u = u

      holds : k.0.need ≤ value k.0 C (isnt 1 M)
      holds = leb→le k.0.need (value k.0 C (isnt 1 M)) (T_and_right (has a k.0.heads) (leb k.0.need (value k.0 C (isnt 1 M))) k.2)

      more : T (grants M C' a k.0)
      more =
          and_T
          (has a k.0.heads)
          (leb k.0.need (value k.0 C' (isnt 1 M)))
          (T_and_left (has a k.0.heads) (leb k.0.need (value k.0 C (isnt 1 M))) k.2)
          (le→leb
          k.0.need
          (value k.0 C' (isnt 1 M))
          (omega (arith, holds, value_mono k.0 C (isnt 1 M) C' (isnt 1 M) part)))

  -- U among the atoms 1 to n
  abbrev pub U : ℕ → Set
  U n = smallest granted (down_from n)

  module _ {n : ℕ} (fits : Fits n P) where
    only : (C : Set) (a : ℕ) → T (granted C a) → Memᴰ a (down_from n)
    only C a t =
        let k = some_T (grants M C a) P (T_and_right (isnt 2 M a) (some (grants M C a) P) t) in
        within_up_to
        n
        (fits.head
        k.0
        k.1
        a
        (T_and_left (has a k.0.heads) (leb k.0.need (value k.0 C (isnt 1 M))) k.2))

    pub U_grounds : Grounds P M (U n)
    U_grounds =
        record {
          none_out =
              λ a t e.
              T_ne
              (T_and_left (isnt 2 M a) (some (grants M (U n) a) P) (smallest_passes granted granted_mono (down_from n) only a t))
              e;
          holds_heads =
              λ r m a h o k.
              let
              t : T (granted (U n) a)
              = and_T
              (isnt 2 M a)
              (some (grants M (U n) a) P)
              (ne_T o)
              (T_some
              (grants M (U n) a)
              m
              (and_T
              (has a r.heads)
              (leb r.need (value r (U n) (isnt 1 M)))
              h
              (le→leb r.need (value r (U n) (isnt 1 M)) k)))
              in
              smallest_closed granted granted_mono (down_from n) a (only (U n) a t) t;
        }

    pub U_founded : (a : ℕ) → T (U n a) → Founded P M a
    U_founded a t C g = smallest_below granted granted_mono (down_from n) C closed a t
      where
        closed : (b : ℕ) → Memᴰ b (down_from n) → T (granted C b) → T (C b)
        closed b i u =
            let k = some_T (grants M C b) P (T_and_right (isnt 2 M b) (some (grants M C b) P) u) in
            g.holds_heads
            k.0
            k.1
            b
            (T_and_left (has b k.0.heads) (leb k.0.need (value k.0 C (isnt 1 M))) k.2)
            (T_ne (T_and_left (isnt 2 M b) (some (grants M C b) P) u))
            (leb→le
            k.0.need
            (value k.0 C (isnt 1 M))
            (T_and_right (has b k.0.heads) (leb k.0.need (value k.0 C (isnt 1 M))) k.2))

    pub founded_U : (a : ℕ) → Founded P M a → T (U n a)
    founded_U a f = f (U n) U_grounds
