-- A number taken without a test is the one that was read: the groups are the same, and so is what they say. It is below 128 for each
-- group.
use Prim.Native.Nat.{ℕ, zero, suc, ◌+◌, ◌*◌, ◌^◌, ◌%◌, ◌≤◌, ◌<◌}
use mathlib.Core.Path.{◌≡◌, refl}
use mathlib.Core.Bool.{Bool, true, false}
use mathlib.Core.List.{List}
use native.Mathlib.Omega.{arith}
use native.Mathlib.Nat.{pow-suc, one-le-pow}
use lib.ListN.{length, get_or}
use lib.Dec.{ltb, lit<}
use borrow.Author.Tests.{lt-ltb, le-ltb, ltb-true}
use Rattle.std.specs.Prelude.{Ok}
use Rattle.rules.specs.Limits.{number_most}
use Rattle.rules.specs.Sum.{pick}
use Rattle.numbers.specs.Answer.{span}
use Rattle.numbers.specs.Number.{groups_from, number_at, higher, taken_from, taken_at}
use Rattle.numbers.specs.declared.Span.{Span}
use Rattle.numbers.proofs.Answer.{not_ok}
use Rattle.numbers.proofs.number.Most.{Groups, last, more, groups}

groups_taken : (s : List ℕ) (left first at : ℕ) (p : Span) → groups_from left s first at ≡ Ok p → taken_from left s first at ≡ p
unfolding groups_from taken_from pick
groups_taken s zero first at p e = absurd (not_ok _ e)
groups_taken s (suc left) first at p e = by (groups s left first at p e) (λ high z. groups_taken s left first (at + 1) high z)
  where
    by :
        Groups s left first at p → ((high : Span) → groups_from left s first (at + 1) ≡ Ok high → taken_from left s first (at + 1) ≡ high)
        → taken_from (suc left) s first at ≡ p
    by (last l b z w) taken = simp (lt-ltb at (length s) l, lt-ltb (get_or s at 0) 128 b) w
    by (more l b high z w) taken = simp (lt-ltb at (length s) l, le-ltb (get_or s at 0) 128 b, taken high z) w

pub taken_read : (s : List ℕ) (at : ℕ) (p : Span) → number_at s at ≡ Ok p → taken_at s at ≡ p
unfolding number_at taken_at
taken_read s at p e = groups_taken s 4 at at p e

groups_below : (s : List ℕ) (left first at : ℕ) → (taken_from left s first at).value < 128 ^ left
unfolding taken_from pick
groups_below s zero first at = omega arith
groups_below s (suc left) first at =
    rw pow-suc (by (ltb at (length s)) (ltb (get_or s at 0) 128) refl (groups_below s left first (at + 1)))
  where
    by :
        (a b : Bool) → ltb (get_or s at 0) 128 ≡ b → (taken_from left s first (at + 1)).value < 128 ^ left
        → (pick a (pick b (span (get_or s at 0) first (at + 1)) (higher (get_or s at 0 % 128) (taken_from left s first (at + 1)))) (span 0 first at)).value
        < 128 ^ left * 128
    by true true h below = let o : 1 ≤ 128 ^ left = one-le-pow left 128 (lit< tt) in omega (arith, ltb-true (get_or s at 0) 128 h)
    by true false h below = omega arith
    by false b h below = let o : 1 ≤ 128 ^ left = one-le-pow left 128 (lit< tt) in omega arith

pub taken_most : (s : List ℕ) (at : ℕ) → (taken_at s at).value ≤ number_most
unfolding taken_at number_most
taken_most s at = omega (arith, groups_below s 4 at at)
