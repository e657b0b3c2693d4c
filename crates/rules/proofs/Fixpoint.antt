-- The smallest set that a growing test closes, among finitely many candidates, as a list that is computed: those that pass are
-- taken from the candidates until none passes. Each round takes one at least, so there are no more rounds than candidates.
use Prim.Native.Nat.{ℕ, zero, suc, ◌≤◌}
use mathlib.Core.Path.{◌≡◌, refl, subst, ap}
use mathlib.Core.Logic.{◌⊎◌, inl, inr, ⊎_elim}
use mathlib.Core.Bool.{Bool, not}
use mathlib.Core.List.Memᴰ
use mathlib.Core.List.{List, [], ◌∷◌, ◌++◌, Memᴰ}
use native.Mathlib.Omega.{arith}
use lib.ListN.{length}
use lib.Dec.{T}
use Rattle.rules.specs.Sum.{has}
use Rattle.rules.specs.Stable.{Set, Below}
use Rattle.rules.specs.Shown.Paper.{those}
use Rattle.rules.proofs.Tests.{has_mem, mem_has, decided}
use Rattle.rules.proofs.Lists.{mem_length, those_mem, mem_those, those_split}

abbrev pub elements : List ℕ → Set
elements C a = has a C

abbrev pub or_stop : List ℕ → List ℕ → List ℕ → List ℕ
or_stop [] stop more = stop
or_stop (y ∷ ys) stop more = more

module _ (test : Set → ℕ → Bool) where
  abbrev passing : List ℕ → List ℕ → List ℕ
  passing C rest = those (test (elements C)) rest

  abbrev failing : List ℕ → List ℕ → List ℕ
  failing C rest = those (λ a. not (test (elements C) a)) rest

  unfoldable pub grow : ℕ → List ℕ → List ℕ → List ℕ
  grow zero C rest = C
  grow (suc k) C rest =
      let more = grow k (passing C rest ++ C) (failing C rest) in
      or_stop (passing C rest) C more

  abbrev pub smallest_in : List ℕ → List ℕ
  smallest_in cands = grow (length cands) [] cands

  abbrev pub smallest : List ℕ → Set
  smallest cands = elements (smallest_in cands)

  module _ (mono : (C C' : Set) → Below C C' → (a : ℕ) → T (test C a) → T (test C' a)) where
    -- what was taken stays
    grow_keeps : (k : ℕ) (C rest : List ℕ) {a : ℕ} → Memᴰ a C → Memᴰ a (grow k C rest)
    unfolding grow
    grow_keeps zero C rest m = m
    grow_keeps (suc k) C rest {a} m =
        step (passing C rest) (grow_keeps k (passing C rest ++ C) (failing C rest) (Memᴰ.append_right (passing C rest) m))
      where
        step : (ys : List ℕ) {more : List ℕ} → Memᴰ a more → Memᴰ a (or_stop ys C more)
        step [] h = m
        step (y ∷ ys) h = h

    -- at the end no candidate passes that was not taken
    grow_closed :
        (k : ℕ) (C rest : List ℕ) → length rest ≤ k → (a : ℕ) → Memᴰ a rest → T (test (elements (grow k C rest)) a)
        → Memᴰ a (grow k C rest)
    unfolding grow
    grow_closed zero C rest h a m t = absurd (omega (arith, mem_length m, h))
    grow_closed (suc k) C rest h a m t =
        step (passing C rest) refl (grow_closed k (passing C rest ++ C) (failing C rest)) t
      where
        more : List ℕ
        more = grow k (passing C rest ++ C) (failing C rest)

        taken : T (test (elements C) a) ⊎ T (not (test (elements C) a)) → length (failing C rest) ≤ k → (length (failing C rest) ≤ k → (b : ℕ) → Memᴰ b (failing C rest) → T (test (elements more) b) → Memᴰ b more) → T (test (elements more) a) → Memᴰ a more
        taken (inl p) l rec u = grow_keeps k (passing C rest ++ C) (failing C rest) (Memᴰ.append_left C (mem_those (test (elements C)) m p))
        taken (inr p) l rec u = rec l a (mem_those (λ b. not (test (elements C) b)) m p) u

        step :
            (ys : List ℕ) → passing C rest ≡ ys
            → (length (failing C rest) ≤ k → (b : ℕ) → Memᴰ b (failing C rest) → T (test (elements more) b) → Memᴰ b more)
            → T (test (elements (or_stop ys C more)) a) → Memᴰ a (or_stop ys C more)
        step [] e rec u = absurd (Memᴰ.not-nil (subst (Memᴰ a) e (mem_those (test (elements C)) m u)))
        step (y ∷ ys) e rec u =
            let one : length (passing C rest) ≡ suc (length ys) = ap length e in
            taken (decided (test (elements C) a)) (omega (arith, those_split (test (elements C)) rest, one, h)) rec u

    -- what is taken is in every set that the test closes
    grow_below :
        (k : ℕ) (C rest : List ℕ) (D : Set) → ((a : ℕ) → Memᴰ a rest → T (test D a) → T (D a))
        → ((a : ℕ) → Memᴰ a C → T (D a)) → (a : ℕ) → Memᴰ a (grow k C rest) → T (D a)
    unfolding grow
    grow_below zero C rest D closed below a m = below a m
    grow_below (suc k) C rest D closed below a m =
        step (passing C rest) m (grow_below k (passing C rest ++ C) (failing C rest) D (λ b i. closed b (those_mem (λ c. not (test (elements C) c)) rest i).0) both a)
      where
        both : (b : ℕ) → Memᴰ b (passing C rest ++ C) → T (D b)
        both b i =
            ⊎_elim
            (λ (p : Memᴰ b (passing C rest)).
            let q = those_mem (test (elements C)) rest p in
            closed b q.0 (mono (elements C) D (λ c u. below c (has_mem c C u)) b q.1))
            (λ (p : Memᴰ b C). below b p)
            (Memᴰ.append_cases (passing C rest) i)

        step : (ys : List ℕ) {more : List ℕ} → Memᴰ a (or_stop ys C more) → (Memᴰ a more → T (D a)) → T (D a)
        step [] i rec = below a i
        step (y ∷ ys) i rec = rec i

    module _ (cands : List ℕ) where
      pub smallest_closed : (a : ℕ) → Memᴰ a cands → T (test (smallest cands) a) → T (smallest cands a)
      smallest_closed a m t = mem_has (grow_closed (length cands) [] cands (omega arith) a m t)

      pub smallest_below : (D : Set) → ((a : ℕ) → Memᴰ a cands → T (test D a) → T (D a)) → Below (smallest cands) D
      smallest_below D closed a t =
          grow_below (length cands) [] cands D closed (λ b m. absurd (Memᴰ.not-nil m)) a (has_mem a (smallest_in cands) t)

      -- where only candidates pass, it is what passes: a fixed point
      pub smallest_passes : ((C : Set) (a : ℕ) → T (test C a) → Memᴰ a cands) → (a : ℕ) → T (smallest cands a) → T (test (smallest cands) a)
      smallest_passes only =
          smallest_below
          (test (smallest cands))
          (λ a m t. mono (test (smallest cands)) (smallest cands) (λ b u. smallest_closed b (only (smallest cands) b u) u) a t)
