-- Tight: two answers that meet one promise for the same input are equal, in the answer and in every lent byte. A refusal is named
-- by the gate; a closed map is the least, which is unique, and not beside a contradiction; the first model is unique.
use Prim.Native.Nat.{ℕ, ◌+◌, ◌<◌}
use mathlib.Core.Path.{◌≡◌, refl, sym, ◌∙◌, ap, subst}
use mathlib.Core.Logic.{◌⊎◌, inl, inr}
use mathlib.Core.Bool.{Bool, true, false, not}
use mathlib.Core.List.{List}
use native.Mathlib.Omega.{arith}
use lib.ListN.{get_or}
use lib.Dec.{T, eqb}
use Rattle.std.specs.Prelude.{Some, None, Result, Ok, Err}
use Rattle.rules.specs.Rule.{Sheet, Within}
use Rattle.rules.specs.Inner.Bytes.{Room}
use Rattle.rules.specs.Map.{Map, Holding, Written}
use Rattle.rules.specs.Forcing.{computed}
use Rattle.rules.proofs.Fits.{Numbered}
use Rattle.rules.proofs.Tight.{fixed}
use Rattle.rules.proofs.Least.{least_unique, least_or_contradiction}
use Rattle.rules.proofs.First.{first_unique}
use Rattle.rules.proofs.Bytes.{side_index, side_bytes, written_equal, undecided_same}
use Rattle.rules.proofs.Tests.{T_eq, T_ne, decided}
use Rattle.rules.proofs.Maps.{sides}
use Rattle.numbers.specs.declared.Refusal.{Refusal}
use Rattle.sheet.specs.Sheet.{sheet_read}
use Rattle.sheet.specs.Meaning.{accepted, sheet_of, sheet_meant}
use Rattle.sheet.specs.declared.Outline.{Outline}
use Rattle.sheet.proofs.Accepted.{numbered}
use Rattle.sheet.proofs.sheet.Written.{meant}
use Rattle.gate.specs.Scan.{is_contradiction}
use Rattle.gate.specs.Gate.{room_gate, test_gate, pin_gate, margin_gate, part_gate}
use Rattle.gate.proofs.Calls.{Lent, room_goes, pin_goes}
use Rattle.desk.specs.Promise.{Checked, PartRead, Opened, Searched, Tested, MarginRead, closed_with, Upon, Checks, Parts, Opens, Pins, Solves, Tests, Margins, Ends, PinAsks, PinEnds, SolveEnds, TestEnds}
use Rattle.desk.specs.declared.Solved.TheVariants.{Model as ModelFound, NoModel as NoneFound}
use Rattle.desk.proofs.hand.Laws.{threes_are, threes_written}

-- both answers and both lists of bytes are equal
abbrev pub Same : {A : Type 0} → A → A → List ℕ → List ℕ → Type 0
Same r r' m m' = (r ≡ r') × (m ≡ m')

both : {A : Type 0} {x : A} {y : List ℕ} (r r' : A) (m m' : List ℕ) → (r ≡ x) × (m ≡ y) → (r' ≡ x) × (m' ≡ y) → Same r r' m m'
both r r' m m' e e' = (fixed r r' e.0 e'.0, fixed m m' e.1 e'.1)

-- the sheet with which a gate lets a call go on
pub record On (s : List ℕ) (g : (Result Outline Refusal)) (sh : Sheet) : Type 0 where
  pub outline : Outline
  pub goes : g ≡ Ok outline
  pub means : sheet_meant s outline ≡ sh

-- by the gate: the two promises are compared where the call is stopped, and where it goes on
pub upon_both :
    (s : List ℕ) (g : (Result Outline Refusal)) {A A' : Refusal → Type 0} {B B' : Sheet → Type 0} {C : Type 0} → ((why : Refusal) → A why → A' why → C)
    → ((sh : Sheet) → On s g sh → B sh → B' sh → C) → Upon s g A B → Upon s g A' B' → C
upon_both s (Err why) f h p p' = f why p p'
upon_both s (Ok o) f h p p' = h (sheet_meant s o) (record { outline = o; goes = refl; means = refl }) p p'

-- a byte that is 1 or 2 is known by whether it is 1
whole_same : (x y : ℕ) → Within 2 x → Within 2 y → eqb x 1 ≡ eqb y 1 → x ≡ y
whole_same x y p q e = step (decided (eqb x 1))
  where
    two : (z : ℕ) → Within 2 z → T (not (eqb z 1)) → z ≡ 2
    two z r t = by_sides (sides z r.high true)
      where
        by_sides : (z ≡ 0) ⊎ ((z ≡ 1) ⊎ (z ≡ 2)) → z ≡ 2
        by_sides (inl h) = absurd (omega (arith, r.low, h))
        by_sides (inr (inl h)) = absurd (T_ne t h)
        by_sides (inr (inr h)) = h

    step : T (eqb x 1) ⊎ T (not (eqb x 1)) → x ≡ y
    step (inl t) = T_eq t ∙ sym (T_eq (subst T e t))
    step (inr t) = two x p t ∙ sym (two y q (subst (λ (b : Bool). T (not b)) e t))

pub checks_tight : (s : List ℕ) (r r' : Checked) → Checks s r → Checks s r' → r ≡ r'
checks_tight s r r' p p' =
    upon_both s (sheet_read s) (λ why. fixed r r') (λ sh on. fixed r r') p.promise p'.promise

pub parts_tight : (s : List ℕ) (k p i : ℕ) (r r' : PartRead) → Parts s k p i r → Parts s k p i r' → r ≡ r'
parts_tight s k p i r r' q q' =
    upon_both s (part_gate s k) (λ why. fixed r r') (λ sh on. fixed r r') q.promise q'.promise

pub margins_tight : (s m : List ℕ) (k : ℕ) (r r' : MarginRead) → Margins s m k r → Margins s m k r' → r ≡ r'
margins_tight s m k r r' p p' =
    upon_both s (margin_gate s m k) (λ why. fixed r r') (λ sh on. fixed r r') p.promise p'.promise

-- the sheet was accepted, and the lent map is long enough
on_lent :
    {s m : List ℕ} {g : (Result Outline Refusal)} {sh : Sheet} → ((o : Outline) → g ≡ Ok o → Lent s m o) → On s g sh
    → (sheet_of s ≡ accepted sh) × Room sh.atoms m
unfolding sheet_meant
on_lent {s} {m} f on =
    let l = f on.outline on.goes in
    (meant s on.outline l.accepted ∙ ap accepted on.means, subst (λ (x : Sheet). Room x.atoms m) on.means l.room)

-- the first n bytes of two maps agree
abbrev pub Agree : ℕ → List ℕ → List ℕ → Type 0
Agree n m m' = (i : ℕ) → i < n → get_or m i 0 ≡ get_or m' i 0

-- two ends of one question, on two lent maps: the same answer, and the same first n bytes; on one lent map, every byte
module _ (sh : Sheet) (Q : Map → Type 0) where
  abbrev n : ℕ
  n = sh.atoms

  pub ends_alike :
      (m l m' l' : List ℕ) (r q : Opened) → Room n m → Room n l → Ends sh Q m m' r → Ends sh Q l l' q → (r ≡ q) × Agree n m' l'
  ends_alike m l m' l' (Ok (Some k)) (Ok (Some k')) room room' e e' =
      (ap closed_with (e.open' ∙ undecided_same n m' l' (omega (arith, e.written.long, room)) (omega (arith, e'.written.long, room')) bytes ∙ sym e'.open'), bytes)
    where
      bytes : Agree n m' l'
      bytes = side_bytes n m' l' (least_unique e.least e'.least)
  ends_alike m l m' l' (Ok (Some k)) (Ok None) room room' e e' = absurd (least_or_contradiction e.least e'.none)
  ends_alike m l m' l' (Ok (Some k)) (Err why) room room' e e' = absurd e'
  ends_alike m l m' l' (Ok None) (Ok (Some k)) room room' e e' = absurd (least_or_contradiction e'.least e.none)
  ends_alike m l m' l' (Ok None) (Ok None) room room' e e' = (
    refl,
    λ i h.
        ap (λ (x : List ℕ). get_or x i 0) e.bytes ∙ threes_are n m i h
        ∙ sym (ap (λ (x : List ℕ). get_or x i 0) e'.bytes ∙ threes_are n l i h),
  )
  ends_alike m l m' l' (Ok None) (Err why) room room' e e' = absurd e'
  ends_alike m l m' l' (Err why) q room room' e e' = absurd e

  pub ends_written : (m m' : List ℕ) (r : Opened) → Room n m → Ends sh Q m m' r → Written n m m'
  ends_written m m' (Ok (Some k)) room e = e.written
  ends_written m m' (Ok None) room e = subst (Written n m) (sym e.bytes) (threes_written n m room)
  ends_written m m' (Err why) room e = absurd e

  pub ends_tight : (m m' m'' : List ℕ) (r r' : Opened) → Room n m → Ends sh Q m m' r → Ends sh Q m m'' r' → Same r r' m' m''
  ends_tight m m' m'' r r' room e e' =
      let (same, bytes) = ends_alike m m m' m'' r r' room room e e' in
      (same, written_equal n m m' m'' (ends_written m m' r room e) (ends_written m m'' r' room e') bytes)

pub opens_tight : (s m m' m'' : List ℕ) (r r' : Opened) → Opens s m m' r → Opens s m m'' r' → Same r r' m' m''
opens_tight s m m' m'' r r' p p' =
    upon_both
    s
    (room_gate s m)
    (λ why. both r r' m' m'')
    (λ sh on. ends_tight sh (Holding (computed sh)) m m' m'' r r' (on_lent (λ o g. room_goes s m g) on).1)
    p.promise
    p'.promise

pub pins_tight : (s m : List ℕ) (a v : ℕ) (m' m'' : List ℕ) (r r' : Opened) → Pins s m a v m' r → Pins s m a v m'' r' → Same r r' m' m''
pins_tight s m a v m' m'' r r' p p' =
    upon_both
    s
    (pin_gate s m a v)
    (λ why. both r r' m' m'')
    (λ sh on. ended sh (on_lent (λ o g. (pin_goes s m a v g).lent) on).1 (is_contradiction sh.atoms m))
    p.promise
    p'.promise
  where
    ended : (sh : Sheet) → Room sh.atoms m → (b : Bool) → PinEnds b sh m a v m' r → PinEnds b sh m a v m'' r' → Same r r' m' m''
    ended sh room true e e' = both r r' m' m'' e e'
    ended sh room false e e' = ends_tight sh (PinAsks sh m a v) m m' m'' r r' room e e'

pub test_ends_tight : (sh : Sheet) (m : List ℕ) (q q' : Tested) → TestEnds sh m q → TestEnds sh m q' → q ≡ q'
test_ends_tight sh m (Ok true) (Ok true) e e' = refl
test_ends_tight sh m (Ok true) (Ok false) e e' = absurd (e' e)
test_ends_tight sh m (Ok true) (Err why) e e' = absurd e'
test_ends_tight sh m (Ok false) (Ok true) e e' = absurd (e e')
test_ends_tight sh m (Ok false) (Ok false) e e' = refl
test_ends_tight sh m (Ok false) (Err why) e e' = absurd e'
test_ends_tight sh m (Err why) q' e e' = absurd e

pub tests_tight : (s m : List ℕ) (r r' : Tested) → Tests s m r → Tests s m r' → r ≡ r'
tests_tight s m r r' p p' =
    upon_both s (test_gate s m) (λ why. fixed r r') (λ sh on. test_ends_tight sh m r r') p.promise p'.promise

-- two ends of a search, on two lent maps
module _ (sh : Sheet) (ok : Numbered sh) where
  pub solve_ends_alike : (m l m' l' : List ℕ) (r q : Searched) → SolveEnds sh m m' r → SolveEnds sh l l' q → (r ≡ q) × Agree sh.atoms m' l'
  solve_ends_alike m l m' l' (Ok ModelFound) (Ok ModelFound) e e' = (
    refl,
    λ i h.
        whole_same
        (get_or m' i 0)
        (get_or l' i 0)
        (e.whole i h)
        (e'.whole i h)
        (sym (ap (λ (x : ℕ). eqb x 1) (side_index sh.atoms m' i h))
        ∙ first_unique ok e.first e'.first (i + 1)
        ∙ ap (λ (x : ℕ). eqb x 1) (side_index sh.atoms l' i h)),
  )
  solve_ends_alike m l m' l' (Ok ModelFound) (Ok NoneFound) e e' = absurd (e'.0 _ e.first.is)
  solve_ends_alike m l m' l' (Ok ModelFound) (Err why) e e' = absurd e'
  solve_ends_alike m l m' l' (Ok NoneFound) (Ok ModelFound) e e' = absurd (e.0 _ e'.first.is)
  solve_ends_alike m l m' l' (Ok NoneFound) (Ok NoneFound) e e' = (
    refl,
    λ i h.
        ap (λ (x : List ℕ). get_or x i 0) e.1 ∙ threes_are sh.atoms m i h
        ∙ sym (ap (λ (x : List ℕ). get_or x i 0) e'.1 ∙ threes_are sh.atoms l i h),
  )
  solve_ends_alike m l m' l' (Ok NoneFound) (Err why) e e' = absurd e'
  solve_ends_alike m l m' l' (Err why) q e e' = absurd e

solve_written : (sh : Sheet) (m m' : List ℕ) (r : Searched) → Room sh.atoms m → SolveEnds sh m m' r → Written sh.atoms m m'
solve_written sh m m' (Ok ModelFound) room e = e.written
solve_written sh m m' (Ok NoneFound) room e = subst (Written sh.atoms m) (sym e.1) (threes_written sh.atoms m room)
solve_written sh m m' (Err why) room e = absurd e

pub solves_tight : (s m m' m'' : List ℕ) (r r' : Searched) → Solves s m m' r → Solves s m m'' r' → Same r r' m' m''
solves_tight s m m' m'' r r' p p' =
    upon_both s (room_gate s m) (λ why. both r r' m' m'') (λ sh on. ended sh (on_lent (λ o g. room_goes s m g) on)) p.promise p'.promise
  where
    ended : (sh : Sheet) → (sheet_of s ≡ accepted sh) × Room sh.atoms m → SolveEnds sh m m' r → SolveEnds sh m m'' r' → Same r r' m' m''
    ended sh (is, room) e e' =
        let (same, bytes) = solve_ends_alike sh (numbered s sh is) m m m' m'' r r' e e' in
        (same, written_equal sh.atoms m m' m'' (solve_written sh m m' r room e) (solve_written sh m m'' r' room e') bytes)
