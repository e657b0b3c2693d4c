-- The gates of the calls: what each has tested where it lets its call go on, and where it does.
use Prim.Native.Nat.{ℕ, ◌≤◌}
use mathlib.Core.Path.{◌≡◌, refl, sym, ap, ◌∙◌}
use mathlib.Core.Bool.{Bool, true, false, not, true≢false}
use mathlib.Core.List.{List, [], ◌∷◌}
use native.Mathlib.Omega.{arith}
use lib.ListN.{length}
use borrow.Author.Tests.{le-ltb, ltb-false}
use Rattle.std.specs.Prelude.{Option, Some, None, Result, Ok, Err}
use Rattle.rules.specs.Rule.{Within}
use Rattle.rules.specs.declared.RuleNo.{RuleNo}
use Rattle.rules.specs.Sum.{pick}
use Rattle.rules.specs.Map.{Whole, inside}
use Rattle.rules.specs.Inner.Bytes.{Room}
use Rattle.rules.proofs.Inside.{inside_within}
use Rattle.rules.proofs.Tests.{T_and_left, T_and_right, true_T}
use Rattle.numbers.specs.Answer.{refusal, read_then}
use Rattle.numbers.specs.declared.Refusal.{Refusal}
use Rattle.numbers.specs.declared.reason.Reason.TheVariants.{BadPin}
use Rattle.sheet.specs.Sheet.{sheet_read}
use Rattle.sheet.specs.declared.Outline.{Outline}
use Rattle.gate.specs.Scan.{map_fault, is_contradiction}
use Rattle.gate.specs.declared.Pin.{Pin}
use Rattle.gate.specs.Gate.{Test, stop_if, room, is_pin, no_fault, gate, tested, beside, room_gate, open_gate, solve_gate, test_gate, pin_gate, margin_gate, part_gate, pin_of, rule_of, then_stay, with_pin, with_stay, with_rule}
use Rattle.gate.proofs.Tests.{beside_goes, not_stopped, no_stop, stops, gate_goes, sheet_passes, test_passes, test_stops, all_tested}
use Rattle.gate.proofs.scan.Maps.{model_fine}

-- the sheet was accepted, and the lent map is long enough
pub record Lent (s m : List ℕ) (o : Outline) : Type 0 where
  pub accepted : sheet_read s ≡ Ok o
  pub room : Room o.atoms m

-- two numbers that are a pin, on a map without a fault
pub record PinLent (s m : List ℕ) (a v : ℕ) (o : Outline) : Type 0 where
  pub lent : Lent s m o
  pub atom : Within o.atoms a
  pub side : Within 2 v
  pub fine : o.atoms ≤ map_fault o.atoms m

-- a pin that was let through: it is the one that was asked for
pub record Through (s m : List ℕ) (a v : ℕ) (o : Outline) (pin : Pin) : Type 0 where
  pub goes : PinLent s m a v o
  pub asked : pin ≡ pin_of a v

-- and where on a contradiction there is none
pub record StayThrough (s m : List ℕ) (a v : ℕ) (o : Outline) (pin : Option Pin) : Type 0 where
  pub goes : PinLent s m a v o
  pub asked : pin ≡ then_stay o.atoms m (pin_of a v)

-- a rule's number that was
pub record AskedRule (o : Outline) (k : ℕ) (rule : RuleNo) : Type 0 where
  pub within : Within o.rules.value k
  pub asked : rule ≡ rule_of k

passed_not : (b : Bool) (why : Refusal) → stop_if (not b) why ≡ Ok tt → b ≡ true
passed_not b why e = by b (not_stopped (not b) why e)
  where
    by : (x : Bool) → not x ≡ false → x ≡ true
    by true h = refl
    by false h = absurd (true≢false h)

room_passed : (n : ℕ) (m : List ℕ) → room n m ≡ Ok tt → Room n m
room_passed n m e = ltb-false (length m) n (not_stopped _ _ e)

fault_passed : (n place : ℕ) → no_fault n place ≡ Ok tt → n ≤ place
fault_passed n place e = ltb-false place n (not_stopped _ _ e)

inside_passed : (n k : ℕ) (why : Refusal) → stop_if (not (inside n k)) why ≡ Ok tt → Within n k
inside_passed n k why e = inside_within n k (true_T (passed_not _ why e))

-- a pin that is handed on is the one that was asked for, and the map is no contradiction; where none is handed on, it is one
module _ (n : ℕ) (m : List ℕ) (p : Pin) where
  pub handed_on : {q : Pin} → then_stay n m p ≡ Some q → (is_contradiction n m ≡ false) × (p ≡ q)
  unfolding pick
  handed_on {q} e = by (is_contradiction n m) e
    where
      by : (b : Bool) → pick {A = Option Pin} b None (Some p) ≡ Some q → (b ≡ false) × (p ≡ q)
      by true h = let w : ◌≡◌ {A = ℕ} 0 1 = cc in absurd (omega arith)
      by false h = (refl, cc)

  pub held_back : then_stay n m p ≡ None → is_contradiction n m ≡ true
  unfolding pick
  held_back e = by (is_contradiction n m) e
    where
      by : (b : Bool) → pick {A = Option Pin} b None (Some p) ≡ None → b ≡ true
      by true h = refl
      by false h = let w : ◌≡◌ {A = ℕ} 0 1 = cc in absurd (omega arith)

module _ (s : List ℕ) {o : Outline} where
  module _ (m : List ℕ) where
    pub room_goes : room_gate s m ≡ Ok o → Lent s m o
    room_goes e = let (read, (room, _)) = gate_goes s _ e in record { accepted = read; room = room_passed o.atoms m room }

    pub open_goes : open_gate s m ≡ Ok o → Lent s m o
    open_goes e = room_goes e

    pub solve_goes : solve_gate s m ≡ Ok o → Lent s m o
    solve_goes e = room_goes e

    pub test_goes : test_gate s m ≡ Ok o → Lent s m o × Whole o.atoms m
    test_goes e =
        let (read, (room, (fine, _))) = gate_goes s _ e in
        (record { accepted = read; room = room_passed o.atoms m room }, model_fine o.atoms m (fault_passed _ _ fine))

    pub pin_goes : (a v : ℕ) → pin_gate s m a v ≡ Ok o → PinLent s m a v o
    pin_goes a v e =
        let (read, (room, (pin, (fine, _)))) = gate_goes s _ e in
        let t = true_T (passed_not (is_pin o.atoms a v) _ pin) in
        record {
          lent = record { accepted = read; room = room_passed o.atoms m room };
          atom = inside_within o.atoms a (T_and_left (inside o.atoms a) (inside 2 v) t);
          side = inside_within 2 v (T_and_right (inside o.atoms a) (inside 2 v) t);
          fine = fault_passed _ _ fine;
        }

    pub pin_through : (a v : ℕ) {pin : Pin} → with_pin a v (pin_gate s m a v) ≡ Ok (o, pin) → Through s m a v o pin
    pin_through a v e =
        let (goes, same) = beside_goes _ _ (sym e) in
        record { goes = pin_goes a v goes; asked = sym same }

    pub stay_through : (a v : ℕ) {pin : Option Pin} → with_stay m a v (pin_gate s m a v) ≡ Ok (o, pin) → StayThrough s m a v o pin
    stay_through a v e =
        let (goes, same) = beside_goes _ _ (sym e) in
        record { goes = pin_goes a v goes; asked = sym same }

    pub margin_goes : (k : ℕ) → margin_gate s m k ≡ Ok o → Within o.rules.value k × Lent s m o
    margin_goes k e =
        let (read, (room, (rule, _))) = gate_goes s _ e in
        (inside_passed o.rules.value k _ rule, record { accepted = read; room = room_passed o.atoms m room })

    pub margin_through : (k : ℕ) {rule : RuleNo} → with_rule k (margin_gate s m k) ≡ Ok (o, rule) → AskedRule o k rule × Lent s m o
    margin_through k e =
        let (goes, same) = beside_goes _ _ (sym e) in
        let (within, lent) = margin_goes k goes in
        (record { within = within; asked = sym same }, lent)

  pub part_goes : (k : ℕ) → part_gate s k ≡ Ok o → Within o.rules.value k × (sheet_read s ≡ Ok o)
  part_goes k e = let (read, (rule, _)) = gate_goes s _ e in (inside_passed o.rules.value k _ rule, read)

  pub part_through : (k : ℕ) {rule : RuleNo} → with_rule k (part_gate s k) ≡ Ok (o, rule) → AskedRule o k rule × (sheet_read s ≡ Ok o)
  part_through k e =
      let (goes, same) = beside_goes _ _ (sym e) in
      let (within, read) = part_goes k goes in
      (record { within = within; asked = sym same }, read)

-- The other way: the gate of an accepted sheet and a map that is long enough goes by its other tests.
module _ {s m : List ℕ} {o : Outline} (lent : Lent s m o) where
  has_room : room o.atoms m ≡ Ok tt
  has_room = no_stop _ _ (le-ltb (length m) o.atoms lent.room)

  pub lent_through : (tests : Outline → List Test) → gate s (λ y. room y.atoms m ∷ tests y) ≡ tested (tests o) o
  lent_through tests = sheet_passes s _ lent.accepted (test_passes _ _ o has_room refl)

  pub room_through : room_gate s m ≡ Ok o
  unfolding tested
  room_through = lent_through (λ y. [])

  module _ (a v : ℕ) where
    -- a pin on a map without a fault
    pub pins_through : is_pin o.atoms a v ≡ true → map_fault o.atoms m ≡ o.atoms → pin_gate s m a v ≡ Ok o
    pins_through b e =
        lent_through _
        ∙ all_tested _ o (no_stop _ _ (ap not b), (no_stop _ _ (le-ltb (map_fault o.atoms m) o.atoms (omega (arith, e))), tt))

    -- with it, unless the map is a contradiction
    pub pins_handed :
        is_pin o.atoms a v ≡ true → map_fault o.atoms m ≡ o.atoms
        → with_stay m a v (pin_gate s m a v) ≡ Ok (o, then_stay o.atoms m (pin_of a v))
    unfolding beside read_then
    pins_handed b e = ap (λ (g : Result Outline Refusal). with_stay m a v g) (pins_through b e)

    -- 11
    pub pins_barred : is_pin o.atoms a v ≡ false → pin_gate s m a v ≡ Err (refusal BadPin 0)
    pins_barred b = lent_through _ ∙ test_stops _ _ o (stops _ _ (ap not b))
