-- The weight of a body grows with the tests by which its literals count: both lists' sums do.
use Prim.Native.Nat.{◌+◌, ◌≤◌}
use mathlib.Core.Path.{◌≡◌, ap₂}
use mathlib.Core.Bool.{Bool, true, false, not}
use mathlib.Core.List.{Memᴰ}
use native.Mathlib.Omega.{arith}
use lib.Dec.{T}
use Rattle.rules.specs.Rule.{Rule, Weighted, body}
use Rattle.rules.specs.Stable.{Set, value}
use Rattle.rules.proofs.Sum.{tally_mono, tally_more, tally_same}

-- the test for the literals of a sign
abbrev pub by : Bool → Set → Set → Set
by true p q = p
by false p q = q

module _ (r : Rule) (p q p' q' : Set) where
  pub value_mono :
      ((s : Bool) (l : Weighted) → Memᴰ l (body r s) → T (by s p q l.atom) → T (by s p' q' l.atom))
      → value r p q ≤ value r p' q'
  unfolding value
  value_mono f =
      omega (
        arith,
        tally_mono
            (λ (l : Weighted). p l.atom)
            (λ l. p' l.atom)
            (λ l. l.weight)
            r.pos
            (λ l m. f true l m),
        tally_mono
            (λ (l : Weighted). q l.atom)
            (λ l. q' l.atom)
            (λ l. l.weight)
            r.neg
            (λ l m. f false l m),
      )

  -- one literal more adds its weight
  pub value_more :
      ((s : Bool) (l : Weighted) → Memᴰ l (body r s) → T (by s p q l.atom) → T (by s p' q' l.atom))
      → (s : Bool) (l : Weighted) → Memᴰ l (body r s) → T (not (by s p q l.atom)) → T (by s p' q' l.atom)
      → value r p q + l.weight ≤ value r p' q'
  unfolding value
  value_more f true l m n t =
      omega (
        arith,
        tally_more
            (λ (k : Weighted). p k.atom)
            (λ k. p' k.atom)
            (λ k. k.weight)
            r.pos
            (λ k i. f true k i)
            l
            m
            n
            t,
        tally_mono
            (λ (k : Weighted). q k.atom)
            (λ k. q' k.atom)
            (λ k. k.weight)
            r.neg
            (λ k i. f false k i),
      )
  value_more f false l m n t =
      omega (
        arith,
        tally_more
            (λ (k : Weighted). q k.atom)
            (λ k. q' k.atom)
            (λ k. k.weight)
            r.neg
            (λ k i. f false k i)
            l
            m
            n
            t,
        tally_mono
            (λ (k : Weighted). p k.atom)
            (λ k. p' k.atom)
            (λ k. k.weight)
            r.pos
            (λ k i. f true k i),
      )

  pub value_same :
      ((s : Bool) (l : Weighted) → Memᴰ l (body r s) → by s p q l.atom ≡ by s p' q' l.atom)
      → value r p q ≡ value r p' q'
  unfolding value
  value_same f =
      ap₂
      ◌+◌
      (tally_same (λ (l : Weighted). p l.atom) (λ l. p' l.atom) (λ l. l.weight) r.pos (λ l m. f true l m))
      (tally_same (λ (l : Weighted). q l.atom) (λ l. q' l.atom) (λ l. l.weight) r.neg (λ l m. f false l m))
