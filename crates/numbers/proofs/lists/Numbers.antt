-- The numbers from a place on, one by one: the first is the number that was read there, and those after it follow; and there are as
-- many as are asked for.
use Prim.Native.Nat.{ℕ, zero, suc, ◌+◌, ◌-◌, ◌≤◌, ◌<◌}
use mathlib.Core.Path.{◌≡◌, refl, ap, ◌∙◌, sym}
use mathlib.Core.List.{List, [], ◌∷◌}
use native.Mathlib.Omega.{arith}
use lib.ListN.{length}
use Rattle.std.specs.Prelude.{Ok}
use Rattle.numbers.specs.Number.{number_at, taken_at}
use Rattle.numbers.specs.Lists.{numbers_from}
use Rattle.numbers.specs.declared.Span.{Span}
use Rattle.numbers.proofs.Answer.{one_left}
use Rattle.numbers.proofs.number.Taken.{taken_read}

pub numbers_more :
    (s : List ℕ) (left at : ℕ) (p : Span) → number_at s at ≡ Ok p
    → numbers_from (suc left) s at ≡ p.value ∷ numbers_from left s p.next
unfolding numbers_from
numbers_more s left at p e = ap (λ (q : Span). q.value ∷ numbers_from left s q.next) (taken_read s at p e)

pub numbers_count : (s : List ℕ) (left at : ℕ) → length (numbers_from left s at) ≡ left
unfolding numbers_from
numbers_count s zero at = refl
numbers_count s (suc left) at = ap suc (numbers_count s left (taken_at s at).next)

-- the numbers that are left, of count, when k were passed
pub numbers_over : (s : List ℕ) (count k at : ℕ) → count ≤ k → numbers_from (count - k) s at ≡ []
unfolding numbers_from
numbers_over s count k at h = let z : count - k ≡ 0 = omega arith in ap (λ (m : ℕ). numbers_from m s at) z

pub numbers_turn :
    (s : List ℕ) (count k at : ℕ) → k < count → {p : Span} → p ≡ taken_at s at
    → numbers_from (count - k) s at ≡ p.value ∷ numbers_from (count - (k + 1)) s p.next
unfolding numbers_from
numbers_turn s count k at h e =
    ap (λ (m : ℕ). numbers_from m s at) (one_left count k h)
    ∙ ap (λ (q : Span). q.value ∷ numbers_from (count - (k + 1)) s q.next) (sym e)
