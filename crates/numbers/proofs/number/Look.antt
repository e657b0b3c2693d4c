-- One look at a group's byte: the bytes are at their end, the group is one that the shortest form leaves out, it is the last, or more groups follow.
use Prim.Native.Nat.{ℕ, suc, ◌+◌, ◌%◌, ◌≤◌, ◌<◌}
use mathlib.Core.Path.{◌≡◌, refl}
use mathlib.Core.Bool.{Bool, true, false, ◌&&◌}
use mathlib.Core.List.{List}
use lib.ListN.{length, get_or}
use lib.Dec.{ltb, eqb}
use borrow.Author.Tests.{ltb-true, ltb-false}
use Rattle.std.specs.Prelude.{Result, Ok, Err}
use Rattle.std.specs.Prelude.{Ok, Err}
use Rattle.rules.specs.Sum.{pick}
use Rattle.rules.proofs.Tests.{T_true, true_T, T_eq, T_and_left, T_and_right}
use Rattle.numbers.specs.Answer.{read_then, span, refusal}
use Rattle.numbers.specs.Number.{groups_from, higher}
use Rattle.numbers.specs.declared.Refusal.{Refusal}
use Rattle.numbers.specs.declared.Span.{Span}
use Rattle.numbers.specs.declared.reason.Reason.TheVariants.{EndsEarly, NotShortest}

pub data Look (s : List ℕ) (left first at : ℕ) : Result Span Refusal → Type 0 where
  at_end : length s ≤ at → Look s left first at (Err (refusal EndsEarly (length s)))
  left_out : at < length s → first < at → get_or s at 0 ≡ 0 → Look s left first at (Err (refusal NotShortest first))
  final :
      at < length s → get_or s at 0 < 128 → (ltb first at && eqb (get_or s at 0) 0) ≡ false
      → Look s left first at (Ok (span (get_or s at 0) first (at + 1)))
  further :
      at < length s → 128 ≤ get_or s at 0
      → Look s left first at (read_then Err (groups_from left s first (at + 1)) (λ high. Ok (higher (get_or s at 0 % 128) high)))

pub look : (s : List ℕ) (left first at : ℕ) → Look s left first at (groups_from (suc left) s first at)
unfolding groups_from pick
look s left first at = by (ltb at (length s)) (ltb (get_or s at 0) 128) (ltb first at && eqb (get_or s at 0) 0) refl refl refl
  where
    by :
        (a b c : Bool) → ltb at (length s) ≡ a → ltb (get_or s at 0) 128 ≡ b → (ltb first at && eqb (get_or s at 0) 0) ≡ c
        → Look s left first at
        (pick a
        (pick b (pick c (Err (refusal NotShortest first)) (Ok (span (get_or s at 0) first (at + 1))))
        (read_then Err (groups_from left s first (at + 1)) (λ high. Ok (higher (get_or s at 0 % 128) high))))
        (Err (refusal EndsEarly (length s))))
    by false b c p q r = at_end (ltb-false at (length s) p)
    by true true true p q r =
        left_out (ltb-true at (length s) p)
        (ltb-true first at (T_true _ (T_and_left (ltb first at) _ (true_T r))))
        (T_eq (T_and_right (ltb first at) _ (true_T r)))
    by true true false p q r = final (ltb-true at (length s) p) (ltb-true (get_or s at 0) 128 q) r
    by true false c p q r = further (ltb-true at (length s) p) (ltb-false (get_or s at 0) 128 q)
