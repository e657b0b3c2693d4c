-- The bytes up to `past_bytes` are there, and no more than were asked for. A number of one byte is read straight; and where it is one that
-- its place in a run allows, the run goes on after it.
use Prim.Native.Nat.{ℕ, ◌+◌, ◌-◌, ◌≤◌, ◌<◌, min}
use mathlib.Core.Path.{◌≡◌, refl, sym, ap, subst, ◌∙◌}
use mathlib.Core.List.{List}
use native.Mathlib.Omega.{arith}
use lib.ListN.{length, get_or}
use borrow.Author.Tests.{lt-ltb, le-ltb, lt-leb}
use Rattle.std.specs.Prelude.{Result, Ok}
use Rattle.rules.specs.Sum.{pick}
use Rattle.rules.proofs.Inside.{atom_made}
use Rattle.numbers.specs.Answer.{span, read_then}
use Rattle.numbers.specs.Number.{groups_from, number_at}
use Rattle.numbers.specs.Lists.{atom_at, in_turn}
use Rattle.numbers.specs.Inner.Short.{past_bytes, Ahead}
use Rattle.numbers.specs.declared.Span.{Span}
use Rattle.numbers.specs.declared.Refusal.{Refusal}
use Rattle.numbers.proofs.lists.Laws.{turn}

module _ (s : List ℕ) (count first : ℕ) where
  pub past_few : past_bytes s count first ≤ first + count
  unfolding past_bytes
  past_few = omega arith

  pub past_from : first ≤ past_bytes s count first
  unfolding past_bytes
  past_from = omega arith

  pub past_there : (at : ℕ) → first ≤ at → at < past_bytes s count first → at < length s
  unfolding past_bytes
  past_there at h l = omega arith

pub byte_read :
    (s : List ℕ) (at byte : ℕ) → at < length s → byte ≡ get_or s at 0 → byte < 128 → number_at s at ≡ Ok (span byte at (at + 1))
unfolding number_at groups_from pick
byte_read s at byte l g b = simp (lt-ltb at (length s) l, ← g, lt-ltb byte 128 b, le-ltb at at (omega arith))

module _ (step : ℕ → ℕ → Result Span Refusal) (count first : ℕ) where
  pub none_ahead : Ahead step count first 0 first
  none_ahead =
      let z : count - (first - first) ≡ count = omega arith in
      record {
        begun = omega arith;
        few = omega arith;
        rest = ap (λ (k : ℕ). in_turn step k 0 (span count first first)) z;
      }

  pub one_ahead :
      (before at value : ℕ) → Ahead step count first before at → at < first + count → step before at ≡ Ok (span value at (at + 1))
      → Ahead step count first value (at + 1)
  one_ahead before at value a l e =
      let h = a.begun in
      let z : count - (at + 1 - first) ≡ count - (at - first + 1) = omega arith in
      record {
        begun = omega arith;
        few = omega arith;
        rest =
            ap (λ (k : ℕ). in_turn step k value (span count first (at + 1))) z
            ∙ turn step count (at - first) before (span count first at) a.rest (omega arith) refl (span value at (at + 1)) e;
      }

-- a byte that is an atom above the one before, and as one more of a run of atoms
atom_read :
    (s : List ℕ) (n above at atom : ℕ) → at < length s → atom ≡ get_or s at 0 → above < atom → atom ≤ min n 127
    → atom_at s n above at ≡ Ok (span atom at (at + 1))
unfolding atom_at read_then pick
atom_read s n above at atom l g low high =
    simp (
      byte_read s at atom l g (omega arith),
      atom_made n atom (record { low = omega arith; high = omega arith }),
      lt-leb atom above low,
    )

module _ (s : List ℕ) (n count first end most : ℕ) (e : end ≡ past_bytes s count first) (m : most ≡ min n 127) where
  atom_ahead :
      (above at atom : ℕ) → Ahead (atom_at s n) count first above at → at < end → atom ≡ get_or s at 0 → above < atom → atom ≤ most
      → Ahead (atom_at s n) count first atom (at + 1)
  atom_ahead above at atom a l g low high =
      let there = past_there s count first at a.begun (omega arith) in
      one_ahead (atom_at s n) count first above at atom a (omega (arith, past_few s count first))
      (atom_read s n above at atom there g low (omega arith))

  -- two of them: the first is below the second, so it is no more than is allowed
  pub atoms_ahead :
      (above at atom next : ℕ) → Ahead (atom_at s n) count first above at → 1 < end - at → atom ≡ get_or s at 0 → next ≡ get_or s (at + 1) 0
      → above < atom → atom < next → next ≤ most → Ahead (atom_at s n) count first next (at + 2)
  atoms_ahead above at atom next a l g h low up high =
      let z : at + 1 + 1 ≡ at + 2 = omega arith in
      subst (Ahead (atom_at s n) count first next) z
      (atom_ahead atom (at + 1) next (atom_ahead above at atom a (omega arith) g low (omega arith)) (omega arith) h up high)

-- what is so of a value and a place is so of those that an answer names
pub span_at :
    (P : ℕ → ℕ → Type 0) {value first at : ℕ} (p : Span) → p ≡ span value first at → P value at → P p.value p.next
span_at P p e a = subst (λ (q : Span). P q.value q.next) (sym e) a
