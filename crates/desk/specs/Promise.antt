-- What each call promises: its whole answer and every lent byte, for every input. A refusal leaves the map as it was.
use Rattle.std.specs.Prelude.{ℕ, ℤ, ◌≡◌, Bool, true, false, List, [], ◌∷◌, ◌++◌, length, drop, replicate, eqb, Option, Some, None, Result, Ok, Err}
use Rattle.rules.specs.Rule.{Sheet, nth_rule, part_of}
use Rattle.rules.specs.Stable.{Model, First, NoModel}
use Rattle.rules.specs.Map.{Map, Holding, Over, Whole, Written, side, is, signed, margin, undecided}
use Rattle.rules.specs.Forcing.{Closed, Least, Contradiction, computed}
use Rattle.numbers.specs.declared.Refusal.{Refusal}
use Rattle.sheet.specs.Sheet.{sheet_read}
use Rattle.sheet.specs.Meaning.{sheet_meant}
use Rattle.sheet.specs.declared.Outline.{Outline}
use Rattle.gate.specs.Scan.{is_contradiction}
use Rattle.gate.specs.Gate.{open_gate, solve_gate, test_gate, pin_gate, margin_gate, part_gate}
use Rattle.desk.specs.declared.Counts.{Counts}
use Rattle.desk.specs.declared.Solved.{Solved}
use Rattle.desk.specs.declared.Solved.TheVariants.{Model as ModelFound, NoModel as NoneFound}

-- what each call answers: a refusal; or its value
abbrev pub Checked : Type 0
Checked = Result Counts Refusal

-- a part of a rule, or that the rule has no such part
abbrev pub PartRead : Type 0
PartRead = Result (Option ℕ) Refusal

-- "closed" with the number of undecided atoms, or "contradiction"
abbrev pub Opened : Type 0
Opened = Result (Option ℕ) Refusal

abbrev pub closed_with : ℕ → Opened
closed_with k = Ok (Some k)

abbrev pub contradicted : Opened
contradicted = Ok None

abbrev pub Searched : Type 0
Searched = Result Solved Refusal

-- yes or no
abbrev pub Tested : Type 0
Tested = Result Bool Refusal

abbrev pub MarginRead : Type 0
MarginRead = Result ℤ Refusal

-- one promise where a call is stopped, and one where it goes on, with the sheet that the bytes mean
abbrev pub Upon : List ℕ → Result Outline Refusal → (Refusal → Type 0) → (Sheet → Type 0) → Type 0
Upon s (Err why) stopped gone = stopped why
Upon s (Ok o) stopped gone = gone (sheet_meant s o)

-- "Check a sheet: accepted with n and the rule count, or a refusal."
pub record Checks (s : List ℕ) (r : Checked) : Type 0 where
  pub promise : Upon s (sheet_read s) (λ why. r ≡ Err why) (λ sh. r ≡ Ok (record { atoms = sh.atoms; rules = length sh.rules }))

-- "Read a rule by its number: its kind, heads, need, body and weights."
pub record Parts (s : List ℕ) (k p i : ℕ) (r : PartRead) : Type 0 where
  pub promise : Upon s (part_gate s k) (λ why. r ≡ Err why) (λ sh. r ≡ Ok (part_of (nth_rule sh k) p i))

-- n bytes of 3, and the bytes past them as they were
abbrev pub threes : ℕ → List ℕ → List ℕ
threes n m = replicate n 3 ++ drop n m

pub record ClosedMap (sh : Sheet) (Asked : Map → Type 0) (m m' : List ℕ) (k : ℕ) : Type 0 where
  pub least : Least (Closed sh.rules sh.atoms) Asked (side sh.atoms m')
  pub open' : k ≡ undecided sh.atoms m'
  pub written : Written sh.atoms m m'

pub record NoMap (sh : Sheet) (Asked : Map → Type 0) (m m' : List ℕ) : Type 0 where
  pub none : Contradiction (Closed sh.rules sh.atoms) Asked
  pub bytes : m' ≡ threes sh.atoms m

-- "the smallest closed map holding .."; "closed" with the number of undecided atoms, "or, where no consistent closed map holds
-- them, contradiction and n bytes of 3"
abbrev pub Ends : Sheet → (Map → Type 0) → List ℕ → List ℕ → Opened → Type 0
Ends sh Asked m m' (Ok (Some k)) = ClosedMap sh Asked m m' k
Ends sh Asked m m' (Ok None) = NoMap sh Asked m m'
Ends sh Asked m m' (Err why) = ⊥

-- "Open: writes the smallest closed map holding the compute lists. The old map is not read."
pub record Opens (s m m' : List ℕ) (r : Opened) : Type 0 where
  pub promise :
      Upon s (open_gate s m) (λ why. (r ≡ Err why) × (m' ≡ m)) (λ sh. Ends sh (Holding (computed sh)) m m' r)

-- what a pin asks for: the old map and the atom on its side, 1 for in
abbrev pub PinAsks : Sheet → List ℕ → ℕ → ℕ → Map → Type 0
PinAsks sh m a v = Over (side sh.atoms m) (signed (eqb v 1) a ∷ [])

-- "A pin on a contradiction answers contradiction again."
abbrev pub PinEnds : Bool → Sheet → List ℕ → ℕ → ℕ → List ℕ → Opened → Type 0
PinEnds true sh m a v m' r = (r ≡ contradicted) × (m' ≡ m)
PinEnds false sh m a v m' r = Ends sh (PinAsks sh m a v) m m' r

-- "Pin: takes an atom and 1 (in) or 2 (out); the map becomes the smallest closed map holding the old map and the pin."
pub record Pins (s m : List ℕ) (a v : ℕ) (m' : List ℕ) (r : Opened) : Type 0 where
  pub promise :
      Upon s (pin_gate s m a v) (λ why. (r ≡ Err why) × (m' ≡ m))
      (λ sh. PinEnds (is_contradiction sh.atoms m) sh m a v m' r)

pub record ModelMap (sh : Sheet) (m m' : List ℕ) : Type 0 where
  pub first : First sh (is 1 (side sh.atoms m'))
  pub whole : Whole sh.atoms m'
  pub written : Written sh.atoms m m'

abbrev pub SolveEnds : Sheet → List ℕ → List ℕ → Searched → Type 0
SolveEnds sh m m' (Ok ModelFound) = ModelMap sh m m'
SolveEnds sh m m' (Ok NoneFound) = NoModel sh × (m' ≡ threes sh.atoms m)
SolveEnds sh m m' (Err why) = ⊥

-- "Solve: the first agreeing stable model as a map of 1s and 2s, or "none" and n bytes of 3. The old map is not read."
pub record Solves (s m m' : List ℕ) (r : Searched) : Type 0 where
  pub promise : Upon s (solve_gate s m) (λ why. (r ≡ Err why) × (m' ≡ m)) (λ sh. SolveEnds sh m m' r)

abbrev pub TestEnds : Sheet → List ℕ → Tested → Type 0
TestEnds sh m (Ok true) = Model sh (is 1 (side sh.atoms m))
TestEnds sh m (Ok false) = Model sh (is 1 (side sh.atoms m)) → ⊥
TestEnds sh m (Err why) = ⊥

-- "Test: for a map of 1s and 2s, yes exactly when its in-atoms form a stable model that agrees."
pub record Tests (s m : List ℕ) (r : Tested) : Type 0 where
  pub promise : Upon s (test_gate s m) (λ why. r ≡ Err why) (λ sh. TestEnds sh m r)

-- "Margin: reach less need for one rule on one map."
pub record Margins (s m : List ℕ) (k : ℕ) (r : MarginRead) : Type 0 where
  pub promise :
      Upon s (margin_gate s m k) (λ why. r ≡ Err why) (λ sh. r ≡ Ok (margin (nth_rule sh k) (side sh.atoms m)))
