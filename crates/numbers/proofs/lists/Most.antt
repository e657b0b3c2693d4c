-- A run keeps the count and the first place that it began with, so a list's count is a number that was read within its limits.
use Prim.Native.Nat.{ℕ, zero, suc, ◌≤◌}
use mathlib.Core.Path.{◌≡◌, sym, ap}
use mathlib.Core.List.{List}
use native.Mathlib.Omega.{arith}
use Rattle.std.specs.Prelude.{Result, Ok, Err}
use Rattle.rules.specs.Limits.{number_most}
use Rattle.numbers.specs.Answer.{span}
use Rattle.numbers.specs.Number.{within_at}
use Rattle.numbers.specs.Lists.{atom_at, in_turn, up_to, list_at}
use Rattle.numbers.specs.declared.Span.{Span}
use Rattle.numbers.specs.declared.Refusal.{Refusal}
use Rattle.numbers.proofs.Answer.{from_read, not_ok, same_ok}
use Rattle.numbers.proofs.number.Most.{Limited, limited, number_most_law}

pub run_keeps :
    (step : ℕ → ℕ → Result Span Refusal) (left before : ℕ) (done p : Span) → in_turn step left before done ≡ Ok p
    → (p.value ≡ done.value) × (p.first ≡ done.first)
unfolding in_turn
run_keeps step zero before done p e = (ap (λ (q : Span). q.value) (sym (same_ok e)), ap (λ (q : Span). q.first) (sym (same_ok e)))
run_keeps step (suc left) before done p e =
    let g = from_read Err _ (step before done.next) not_ok e in
    run_keeps step left g.0.value (up_to done g.0.next) p g.2

-- a list that was read: its count, and the run of its atoms
pub record Listed (s : List ℕ) (least n at : ℕ) (p : Span) : Type 0 where
  pub count : Span
  pub counted : Limited s least n at count
  pub ran : in_turn (atom_at s n) count.value 0 (span count.value count.next count.next) ≡ Ok p
  pub value : p.value ≡ count.value
  pub first : p.first ≡ count.next

pub listed : (s : List ℕ) (least n at : ℕ) (p : Span) → list_at s least n at ≡ Ok p → Listed s least n at p
unfolding list_at
listed s least n at p e =
    let g = from_read Err _ (within_at s least n at) not_ok e in
    let k = run_keeps (atom_at s n) g.0.value 0 (span g.0.value g.0.next g.0.next) p g.2 in
    record {
      count = g.0;
      counted = limited s least n at g.0 g.1;
      ran = g.2;
      value = k.0;
      first = k.1;
    }

pub list_most : (s : List ℕ) (least n at : ℕ) (p : Span) → list_at s least n at ≡ Ok p → p.value ≤ number_most
list_most s least n at p e =
    let l = listed s least n at p e in
    omega (arith, l.value, number_most_law s at l.count l.counted.number)
