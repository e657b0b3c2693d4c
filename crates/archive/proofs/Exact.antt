-- No remainder of the coding loses anything: each answer that meets its promise has a top below 2^24 and a value below 2^40, by the
-- limits of a sheet, so that the number which a call hands on tells its answer.
use Prim.Native.Nat.{ℕ, ◌*◌, ◌≤◌, ◌<◌, ◌^◌}
use mathlib.Core.Path.{◌≡◌, sym, ◌∙◌, ap, ap₂, subst}
use mathlib.Core.Bool.{Bool, true, false}
use mathlib.Core.List.{List}
use native.Mathlib.Omega.{arith}
use lib.ListN.{length}
use lib.IntN.{ℤ, pos, negsuc}
use Rattle.std.specs.Prelude.{Option, Some, None, Result, Ok, Err}
use Rattle.rules.specs.Limits.{atoms_most, rules_most, bytes_most, weight_most, number_most}
use Rattle.rules.specs.Rule.{Sheet, nth_rule}
use Rattle.rules.specs.Map.{Map, side}
use Rattle.rules.specs.Sum.{pick}
use Rattle.rules.proofs.Bytes.{undecided_few}
use Rattle.numbers.specs.declared.Refusal.{Refusal}
use Rattle.numbers.proofs.Places.{Placed}
use Rattle.sheet.specs.Shown.Encode.{WellFormed}
use Rattle.sheet.proofs.Limits.{Lies, above, below, rule_sound, margin_range}
use Rattle.sheet.specs.Sheet.{sheet_read}
use Rattle.gate.specs.Scan.{is_contradiction}
use Rattle.gate.specs.Gate.{room_gate, test_gate, pin_gate, margin_gate, part_gate}
use Rattle.gate.proofs.Calls.{room_goes, test_goes, pin_goes, margin_goes, part_goes}
use Rattle.gate.proofs.Places.{checks_small, parts_small, rooms_small, tests_small, pins_small, margins_small}
use Rattle.desk.specs.Promise.{Checked, PartRead, Opened, Searched, Tested, MarginRead, contradicted, Checks, Opens, Pins, Solves, Tests, Margins, Parts, Ends, PinEnds, SolveEnds, TestEnds}
use Rattle.desk.specs.declared.Solved.TheVariants.{Model, NoModel}
use Rattle.archive.specs.Code.{HandsOn, counts, raised, code_answer, code_checked, code_opened, code_solved, code_tested, code_margin, code_part}
use Rattle.archive.proofs.Whole.{counts_read, raised_up, raised_down}
use Rattle.archive.proofs.Stops.{Asked, upon, within_limits, asked}
use Rattle.archive.proofs.Parts.{Numeric, number, none, part_numeric}
use Rattle.archive.proofs.Told.{told, counted, checked_by, found_by, solved_by, tested_by, margin_by, checked_told, opened_told, solved_told, tested_told, margin_told, part_told, refusal_told, answer_told, lowered_up, lowered_down}

-- the code of an answer tells that answer
pub record Exact {A : Type 0} (of : ℕ → A) (coding : A → ℕ) (answer : A) : Type 0 where
  pub tells : of (coding answer) ≡ answer

-- an answer that is a refusal, of whatever call
refused_exact :
    {A : Type 0} (own : ℕ → ℕ → A) (coding : A → ℕ) (a : Result A Refusal) (why : Refusal) → Placed bytes_most why → a ≡ Err why
    → Exact (told own) (code_answer coding) a
refused_exact own coding a why w e =
    subst (Exact (told own) (code_answer coding)) (sym e) (record { tells = refusal_told own why w })

-- a number tells its answer
tells_answer :
    {A : Type 0} (P : A → Type 0) (of : ℕ → A) (coding : A → ℕ) → ((a : A) → P a → Exact of coding a) → (r : ℕ) (h : HandsOn P coding r)
    → of r ≡ h.answer
tells_answer P of coding exact r h = ap of h.coded ∙ (exact h.answer h.promised).tells

counts_small : (n rules : ℕ) → counts n rules < 2 ^ 40
unfolding counts
counts_small n rules = omega arith

accepted_exact :
    (sh : Sheet) → WellFormed sh → Exact checked_told code_checked (Ok (counted sh.atoms (length sh.rules)))
unfolding atoms_most rules_most
accepted_exact sh w =
    let n = sh.atoms in
    let k = length sh.rules in
    let back = counts_read n k (omega (arith, w.atoms)) (omega (arith, w.count)) in
    record {
      tells =
          answer_told checked_by 32 (counts n k) (omega arith) (omega arith) (counts_small n k)
          ∙ ap₂ (λ (x y : ℕ). Ok (counted x y)) back.top' back.value';
    }

checks_exact : (s : List ℕ) (a : Checked) → Checks s a → Exact checked_told code_checked a
checks_exact s a p =
    upon WellFormed s (sheet_read s) (checks_small s) (λ o e. within_limits s o e)
    (refused_exact checked_by _ a)
    (λ sh w e. subst (Exact checked_told code_checked) (sym e) (accepted_exact sh w))
    p.promise

contradiction_exact : Exact opened_told code_opened contradicted
unfolding pick
contradiction_exact = record { tells = answer_told (found_by 33) 34 0 (omega arith) (omega arith) (omega arith) }

ends_exact :
    (sh : Sheet) (Q : Map → Type 0) (m m' : List ℕ) (a : Opened) → sh.atoms ≤ atoms_most → Ends sh Q m m' a
    → Exact opened_told code_opened a
unfolding atoms_most pick
ends_exact sh Q m m' (Ok (Some k)) few c =
    record {
      tells =
          answer_told (found_by 33) 33 k (omega arith) (omega arith) (omega (arith, c.open', undecided_few sh.atoms m'));
    }
ends_exact sh Q m m' (Ok None) few c = contradiction_exact
ends_exact sh Q m m' (Err why) few c = absurd c

opens_exact : (s m m' : List ℕ) (a : Opened) → Opens s m m' a → Exact opened_told code_opened a
opens_exact s m m' a p =
    upon WellFormed s (room_gate s m) (rooms_small s m) (λ o g. within_limits s o (room_goes s m g).accepted)
    (λ why w e. refused_exact (found_by 33) _ a why w e.0)
    (λ sh w e. ends_exact sh _ m m' a w.atoms e)
    p.promise

pins_exact : (s m : List ℕ) (atom v : ℕ) (m' : List ℕ) (a : Opened) → Pins s m atom v m' a → Exact opened_told code_opened a
pins_exact s m atom v m' a p =
    upon WellFormed s (pin_gate s m atom v) (pins_small s m atom v) (λ o g. within_limits s o (pin_goes s m atom v g).lent.accepted)
    (λ why w e. refused_exact (found_by 33) _ a why w e.0)
    (λ sh w e. ended sh (is_contradiction sh.atoms m) w.atoms e)
    p.promise
  where
    ended : (sh : Sheet) (b : Bool) → sh.atoms ≤ atoms_most → PinEnds b sh m atom v m' a → Exact opened_told code_opened a
    ended sh true few e = subst (Exact opened_told code_opened) (sym e.0) contradiction_exact
    ended sh false few e = ends_exact sh _ m m' a few e

solve_ends_exact : (sh : Sheet) (m m' : List ℕ) (a : Searched) → SolveEnds sh m m' a → Exact solved_told code_solved a
unfolding pick
solve_ends_exact sh m m' (Ok Model) e = record { tells = answer_told solved_by 35 0 (omega arith) (omega arith) (omega arith) }
solve_ends_exact sh m m' (Ok NoModel) e = record { tells = answer_told solved_by 36 0 (omega arith) (omega arith) (omega arith) }
solve_ends_exact sh m m' (Err why) e = absurd e

solves_exact : (s m m' : List ℕ) (a : Searched) → Solves s m m' a → Exact solved_told code_solved a
solves_exact s m m' a p =
    upon WellFormed s (room_gate s m) (rooms_small s m) (λ o g. within_limits s o (room_goes s m g).accepted)
    (λ why w e. refused_exact solved_by _ a why w e.0)
    (λ sh w e. solve_ends_exact sh m m' a e)
    p.promise

test_ends_exact : (sh : Sheet) (m : List ℕ) (a : Tested) → TestEnds sh m a → Exact tested_told code_tested a
test_ends_exact sh m (Ok true) e = record { tells = answer_told tested_by 37 0 (omega arith) (omega arith) (omega arith) }
test_ends_exact sh m (Ok false) e = record { tells = answer_told tested_by 38 0 (omega arith) (omega arith) (omega arith) }
test_ends_exact sh m (Err why) e = absurd e

tests_exact : (s m : List ℕ) (a : Tested) → Tests s m a → Exact tested_told code_tested a
tests_exact s m a p =
    upon WellFormed s (test_gate s m) (tests_small s m) (λ o g. within_limits s o (test_goes s m g).0.accepted)
    (refused_exact tested_by _ a)
    (λ sh w e. test_ends_exact sh m a e)
    p.promise

range_exact : (x : ℤ) → Lies number_most (2 * (atoms_most * weight_most)) x → Exact margin_told code_margin (Ok x)
unfolding number_most atoms_most weight_most
range_exact _ (above k h) =
    record {
      tells =
          answer_told margin_by 39 (raised (pos k)) (omega arith) (omega arith) (omega (arith, raised_up k))
          ∙ ap Ok (lowered_up k);
    }
range_exact _ (below k h) =
    let few : k < 2 ^ 32 = omega arith in
    record {
      tells =
          answer_told margin_by 39 (raised (negsuc k)) (omega arith) (omega arith) (omega (arith, raised_down k few))
          ∙ ap Ok (lowered_down k few);
    }

margins_exact : (s m : List ℕ) (k : ℕ) (a : MarginRead) → Margins s m k a → Exact margin_told code_margin a
margins_exact s m k a p =
    upon (Asked k) s (margin_gate s m k) (margins_small s m k)
    (λ o g. let (within, lent) = margin_goes s m k g in asked s k o lent.accepted within)
    (refused_exact margin_by _ a)
    (λ sh q e.
    subst (Exact margin_told code_margin) (sym e)
    (range_exact _ (margin_range sh q.within (nth_rule sh k) q.among (side sh.atoms m))))
    p.promise

numeric_exact : (x : Option ℕ) → Numeric x → Exact part_told code_part (Ok x)
unfolding number_most pick
numeric_exact _ (number v h) = record { tells = answer_told (found_by 40) 40 v (omega arith) (omega arith) (omega arith) }
numeric_exact _ none = record { tells = answer_told (found_by 40) 41 0 (omega arith) (omega arith) (omega arith) }

parts_exact : (s : List ℕ) (k p i : ℕ) (a : PartRead) → Parts s k p i a → Exact part_told code_part a
parts_exact s k p i a r =
    upon (Asked k) s (part_gate s k) (parts_small s k)
    (λ o g. let (within, accepted) = part_goes s k g in asked s k o accepted within)
    (refused_exact (found_by 40) _ a)
    (λ sh q e.
    subst (Exact part_told code_part) (sym e)
    (numeric_exact _
    (part_numeric sh.atoms (nth_rule sh k) p i q.within.atoms (rule_sound sh q.within (nth_rule sh k) q.among))))
    r.promise

-- What each exported call hands on tells its answer.
pub check_exact : (s : List ℕ) (r : ℕ) (h : HandsOn (Checks s) code_checked r) → checked_told r ≡ h.answer
check_exact s = tells_answer (Checks s) checked_told code_checked (checks_exact s)

pub open_exact : (s m m' : List ℕ) (r : ℕ) (h : HandsOn (Opens s m m') code_opened r) → opened_told r ≡ h.answer
open_exact s m m' = tells_answer (Opens s m m') opened_told code_opened (opens_exact s m m')

pub pin_exact :
    (s m : List ℕ) (atom v : ℕ) (m' : List ℕ) (r : ℕ) (h : HandsOn (Pins s m atom v m') code_opened r) → opened_told r ≡ h.answer
pin_exact s m atom v m' = tells_answer (Pins s m atom v m') opened_told code_opened (pins_exact s m atom v m')

pub solve_exact : (s m m' : List ℕ) (r : ℕ) (h : HandsOn (Solves s m m') code_solved r) → solved_told r ≡ h.answer
solve_exact s m m' = tells_answer (Solves s m m') solved_told code_solved (solves_exact s m m')

pub test_exact : (s m : List ℕ) (r : ℕ) (h : HandsOn (Tests s m) code_tested r) → tested_told r ≡ h.answer
test_exact s m = tells_answer (Tests s m) tested_told code_tested (tests_exact s m)

pub margin_exact : (s m : List ℕ) (k r : ℕ) (h : HandsOn (Margins s m k) code_margin r) → margin_told r ≡ h.answer
margin_exact s m k = tells_answer (Margins s m k) margin_told code_margin (margins_exact s m k)

pub rule_exact : (s : List ℕ) (k p i r : ℕ) (h : HandsOn (Parts s k p i) code_part r) → part_told r ≡ h.answer
rule_exact s k p i = tells_answer (Parts s k p i) part_told code_part (parts_exact s k p i)
