-- "These versions have to break a promise: a reader that refuses all sheets; a solver that always says "none"; an open or pin that
-- forces nothing beyond the pins; a pin that leaves the map alone; an open that does all later guessing at once and a pin that then
-- does nothing; an undecided count that isn't the number of zero bytes."
use Rattle.std.specs.Prelude.{ℕ, zero, suc, ◌<◌, ◌≡◌, ◌⊎◌, Bool, set, eqb, Result, Ok, Err}
use mathlib.Core.List.{List, [], ◌∷◌, map, Memᴰ}
use Rattle.rules.specs.Map.{Literal, side, want, signed, undecided}
use Rattle.rules.specs.Forcing.{computed}
use Rattle.numbers.specs.Shown.Encode.{IsBytes}
use Rattle.numbers.specs.Answer.{refusal}
use Rattle.numbers.specs.declared.Refusal.{Refusal}
use Rattle.numbers.specs.declared.reason.Reason.TheVariants.{EndsEarly}
use Rattle.sheet.specs.Meaning.{sheet_meant}
use Rattle.sheet.specs.declared.Outline.{Outline}
use Rattle.gate.specs.Gate.{open_gate, pin_gate}
use Rattle.desk.specs.Promise.{Checked, Opened, Searched, closed_with, Checks, Opens, Pins, Solves}
use Rattle.desk.specs.declared.Solved.TheVariants.{Model as ModelFound, NoModel as NoneFound}

-- what a call leaves: its answer, and every lent byte
pub record Leaves (A : Type 0) : Type 0 where
  pub answer : A
  pub map : List ℕ

-- any version of the calls: what each leaves on any bytes
pub record Version : Type 0 where
  pub check : List ℕ → Checked
  pub open' : List ℕ → List ℕ → Leaves Opened
  pub pin : List ℕ → List ℕ → ℕ → ℕ → Leaves Opened
  pub solve : List ℕ → List ℕ → Leaves Searched

pub data Call : Type 0 where
  check_call open_call pin_call solve_call : Call

-- a number of 64 bits
abbrev pub IsWord : ℕ → Type 0
IsWord a = a < 18446744073709551616

-- the version keeps the promise of a call, on any bytes and any numbers
abbrev pub Keeps : Version → Call → Type 0
Keeps v check_call = (s : List ℕ) → IsBytes s → Checks s (v.check s)
Keeps v open_call = (s m : List ℕ) → IsBytes s → IsBytes m → Opens s m (v.open' s m).map (v.open' s m).answer
Keeps v pin_call =
    (s m : List ℕ) (a d : ℕ) → IsBytes s → IsBytes m → IsWord a → IsWord d → Pins s m a d (v.pin s m a d).map (v.pin s m a d).answer
Keeps v solve_call = (s m : List ℕ) → IsBytes s → IsBytes m → Solves s m (v.solve s m).map (v.solve s m).answer

-- "closed" with a number that is not that of the zero bytes
pub record Miscounts (n : ℕ) (l : Leaves Opened) : Type 0 where
  pub count : ℕ
  pub says : l.answer ≡ closed_with count
  pub not : count ≡ undecided n l.map → ⊥

-- open, or pin, goes on
abbrev pub OpenGoes : List ℕ → List ℕ → Outline → Type 0
OpenGoes s m o = open_gate s m ≡ Ok o

abbrev pub PinGoes : List ℕ → List ℕ → ℕ → ℕ → Outline → Type 0
PinGoes s m a d o = pin_gate s m a d ≡ Ok o

-- the wrong versions, by the call that is wrong: a version may do what it likes in its other calls, and on what are no bytes
pub data Wrong (v : Version) : Call → Type 0 where
  refuses_all : ((s : List ℕ) → IsBytes s → (why : Refusal) × (v.check s ≡ Err why)) → Wrong v check_call
  -- no model, on any sheet
  always_none : ((s m : List ℕ) → IsBytes s → IsBytes m → (v.solve s m).answer ≡ Ok ModelFound → ⊥) → Wrong v solve_call
  -- whatever is decided stands in a compute list
  open_forces_nothing :
      ((s m : List ℕ) (o : Outline) → IsBytes s → IsBytes m → OpenGoes s m o → (a : ℕ) (b : Bool)
      → side o.atoms (v.open' s m).map a ≡ want b → Memᴰ (signed b a) (computed (sheet_meant s o)))
      → Wrong v open_call
  -- whatever is decided was so before, or is the pin
  pin_forces_nothing :
      ((s m : List ℕ) (x d : ℕ) (o : Outline) → IsBytes s → IsBytes m → PinGoes s m x d o → (a : ℕ) (b : Bool)
      → side o.atoms (v.pin s m x d).map a ≡ want b → (side o.atoms m a ≡ want b) ⊎ (signed b a ≡ signed (eqb d 1) x))
      → Wrong v pin_call
  -- alone, or after an open that guesses
  pin_leaves_map : ((s m : List ℕ) (a d : ℕ) → IsBytes s → IsBytes m → (v.pin s m a d).map ≡ m) → Wrong v pin_call
  -- no atom is left undecided
  open_guesses :
      ((s m : List ℕ) (o : Outline) → IsBytes s → IsBytes m → OpenGoes s m o → undecided o.atoms (v.open' s m).map ≡ 0)
      → Wrong v open_call
  -- on one sheet and map at least
  open_miscounts :
      (s m : List ℕ) (o : Outline) → IsBytes s → IsBytes m → OpenGoes s m o → Miscounts o.atoms (v.open' s m) → Wrong v open_call
  pin_miscounts :
      (s m : List ℕ) (a d : ℕ) (o : Outline) → IsBytes s → IsBytes m → IsWord a → IsWord d → PinGoes s m a d o
      → Miscounts o.atoms (v.pin s m a d) → Wrong v pin_call

-- every byte the same
abbrev pub filled : ℕ → List ℕ → List ℕ
filled b m = map (λ _. b) m

-- an atom put on a side, and no more
abbrev pub put_at : List ℕ → ℕ → Bool → List ℕ
put_at m zero b = m
put_at m (suc i) b = set m i (want b)

abbrev pub put_all : List ℕ → List Literal → List ℕ
put_all m [] = m
put_all m (p ∷ ps) = put_at (put_all m ps) p.atom p.sign

abbrev pub listed : List ℕ → Result Outline Refusal → List Literal
listed s (Err why) = []
listed s (Ok o) = computed (sheet_meant s o)

-- open and pin write the pins and force nothing, check refuses and solve finds none
abbrev pub lazy : Version
lazy =
    record {
      check = λ s. Err (refusal EndsEarly 0);
      open' = λ s m. record { answer = closed_with 9; map = put_all (filled 0 m) (listed s (open_gate s m)) };
      pin = λ s m a d. record { answer = closed_with 9; map = put_at m a (eqb d 1) };
      solve = λ s m. record { answer = Ok NoneFound; map = m };
    }

-- open puts every atom in, and pin then does nothing
abbrev pub eager : Version
eager =
    record {
      check = λ s. Ok (record { atoms = 0; rules = 0 });
      open' = λ s m. record { answer = closed_with 0; map = filled 1 m };
      pin = λ s m a d. record { answer = closed_with 0; map = m };
      solve = λ s m. record { answer = Ok ModelFound; map = m };
    }
