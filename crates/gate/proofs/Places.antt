-- What stops a call has one of the refusals' numbers and a place up to the limit of bytes: a sheet's own refusals have, the tests' are at
-- 0, and a fault in a map is below n.
use Prim.Native.Nat.{ℕ, ◌≤◌}
use mathlib.Core.Path.{◌≡◌, refl}
use mathlib.Core.Bool.{Bool}
use mathlib.Core.List.{List, [], ◌∷◌}
use native.Mathlib.Omega.{arith}
use lib.Dec.{ltb}
use borrow.Author.Tests.{ltb-true}
use Rattle.std.specs.Prelude.{Result, Ok, Err}
use Rattle.rules.specs.Limits.{atoms_most, bytes_most}
use Rattle.numbers.specs.Answer.{refusal, read_then}
use Rattle.numbers.specs.declared.Refusal.{Refusal}
use Rattle.numbers.specs.declared.reason.Reason.{Reason}
use Rattle.numbers.specs.declared.reason.Reason.TheVariants.{BadMapByte}
use Rattle.numbers.proofs.Places.{Placed, placed, pick_so}
use Rattle.sheet.specs.Sheet.{sheet_read}
use Rattle.sheet.specs.Meaning.{sheet_meant}
use Rattle.sheet.specs.declared.Outline.{Outline}
use Rattle.sheet.proofs.Places.{refused_small}
use Rattle.sheet.proofs.sheet.Ran.{sheet_ran}
use Rattle.gate.specs.Gate.{Test, stop_if, no_fault, tested, gate, room_gate, open_gate, solve_gate, test_gate, pin_gate, margin_gate, part_gate}

-- a refusal that is so placed, or a sheet with few atoms
abbrev pub StopsPlaced : Result Outline Refusal → Type 0
StopsPlaced (Err why) = Placed bytes_most why
StopsPlaced (Ok o) = o.atoms ≤ atoms_most

-- so of each test
abbrev TestPlaced : Test → Type 0
TestPlaced (Err why) = Placed bytes_most why
TestPlaced (Ok u) = Unit

abbrev AllPlaced : List Test → Type 0
AllPlaced [] = Unit
AllPlaced (t ∷ ts) = TestPlaced t × AllPlaced ts

tested_small : (ts : List Test) (o : Outline) → o.atoms ≤ atoms_most → AllPlaced ts → StopsPlaced (tested ts o)
unfolding tested read_then
tested_small [] o few a = few
tested_small (t ∷ ts) o few a = by t a.0 (tested_small ts o few a.1)
  where
    by : (x : Test) → TestPlaced x → StopsPlaced (tested ts o) → StopsPlaced (read_then Err x (λ _. tested ts o))
    by (Err why) p rest = p
    by (Ok u) p rest = rest

pub checks_small : (s : List ℕ) → StopsPlaced (sheet_read s)
unfolding sheet_meant
checks_small s = by (sheet_read s) refl
  where
    by : (r : Result Outline Refusal) → sheet_read s ≡ r → StopsPlaced r
    by (Err why) e = refused_small s why e
    by (Ok o) e = (sheet_ran s o e).well_formed.atoms

gate_small : (s : List ℕ) (tests : Outline → List Test) → ((o : Outline) → o.atoms ≤ atoms_most → AllPlaced (tests o)) → StopsPlaced (gate s tests)
unfolding gate read_then
gate_small s tests f = by (sheet_read s) (checks_small s)
  where
    by : (r : Result Outline Refusal) → StopsPlaced r → StopsPlaced (read_then Err r (λ o. tested (tests o) o))
    by (Err why) p = p
    by (Ok o) few = tested_small (tests o) o few (f o few)

-- a test that stops at 0, and one that finds a fault
at_start : (b : Bool) (reason : Reason) → TestPlaced (stop_if b (refusal reason 0))
unfolding stop_if
at_start b reason = pick_so TestPlaced b _ _ (λ _. placed reason 0 (omega arith)) (λ _. tt)

at_fault : (n place : ℕ) → n ≤ atoms_most → TestPlaced (no_fault n place)
unfolding stop_if atoms_most bytes_most
at_fault n place few =
    pick_so TestPlaced (ltb place n) _ _ (λ e. placed BadMapByte place (omega (arith, few, ltb-true place n e))) (λ _. tt)

-- the gates of the calls
module _ (s : List ℕ) where
  pub parts_small : (k : ℕ) → StopsPlaced (part_gate s k)
  parts_small k = gate_small s _ (λ o few. (at_start _ _, tt))

  module _ (m : List ℕ) where
    pub rooms_small : StopsPlaced (room_gate s m)
    rooms_small = gate_small s _ (λ o few. (at_start _ _, tt))

    pub opens_small : StopsPlaced (open_gate s m)
    opens_small = rooms_small

    pub solves_small : StopsPlaced (solve_gate s m)
    solves_small = rooms_small

    pub tests_small : StopsPlaced (test_gate s m)
    tests_small = gate_small s _ (λ o few. (at_start _ _, (at_fault _ _ few, tt)))

    pub pins_small : (a v : ℕ) → StopsPlaced (pin_gate s m a v)
    pins_small a v = gate_small s _ (λ o few. (at_start _ _, (at_start _ _, (at_fault _ _ few, tt))))

    pub margins_small : (k : ℕ) → StopsPlaced (margin_gate s m k)
    margins_small k = gate_small s _ (λ o few. (at_start _ _, (at_start _ _, (at_fault _ _ few, (at_start _ _, tt)))))
