-- A weight is read alike whatever stands before it, so a run of weights is too; and after a byte that is a weight the run goes on.
use Prim.Native.Nat.{ℕ, zero, suc, ◌+◌, ◌≤◌, ◌<◌, min}
use mathlib.Core.Path.{◌≡◌, refl, ◌∙◌}
use mathlib.Core.List.{List}
use native.Mathlib.Omega.{arith}
use lib.ListN.{length, get_or}
use borrow.Author.Tests.{le-ltb}
use Rattle.std.specs.Prelude.{Ok}
use Rattle.rules.specs.Limits.{weight_most}
use Rattle.rules.specs.Sum.{pick}
use Rattle.numbers.specs.Answer.{span, read_then}
use Rattle.numbers.specs.Number.{within_at}
use Rattle.numbers.specs.Lists.{in_turn}
use Rattle.numbers.specs.Inner.Short.{past_bytes, Ahead}
use Rattle.numbers.specs.declared.Span.{Span}
use Rattle.numbers.proofs.short.Laws.{past_few, past_there, byte_read, one_ahead}
use Rattle.sheet.specs.Body.{weight_at}

pub weights_alike :
    (s : List ℕ) (left before other : ℕ) (done : Span) → in_turn (weight_at s) left before done ≡ in_turn (weight_at s) left other done
unfolding in_turn weight_at
weights_alike s zero before other done = refl
weights_alike s (suc left) before other done = refl

-- a byte that is a weight
weight_short :
    (s : List ℕ) (at : ℕ) → at < length s → get_or s at 0 < 128 → get_or s at 0 ≤ weight_most
    → weight_at s 0 at ≡ Ok (span (get_or s at 0) at (at + 1))
unfolding weight_at within_at read_then pick
weight_short s at l b m = simp (byte_read s at (get_or s at 0) l refl b, le-ltb (get_or s at 0) 0 (omega arith), le-ltb weight_most (get_or s at 0) m)

-- the same, as one more of a run of weights
pub weight_ahead :
    (s : List ℕ) {count first at end most byte : ℕ} → Ahead (weight_at s) count first 0 at → end ≡ past_bytes s count first → at < end
    → most ≡ min weight_most 127 → byte ≡ get_or s at 0 → byte ≤ most → Ahead (weight_at s) count first 0 (at + 1)
weight_ahead s {count} {first} {at} a e l m w b =
    let there = past_there s count first at a.begun (omega (arith, e)) in
    let next = one_ahead (weight_at s) count first 0 at (get_or s at 0) a (omega (arith, e, past_few s count first))
    (weight_short s at there (omega (arith, m, w, b)) (omega (arith, m, w, b))) in
    record {
      begun = next.begun;
      few = next.few;
      rest = weights_alike _ _ _ _ _ ∙ next.rest;
    }
