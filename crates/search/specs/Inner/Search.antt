-- "The search takes the lowest undecided atom, first with the atom in, then with it out, and between the two the map is put back as
-- it stood before the guess." "Solve: the first agreeing stable model as a map of 1s and 2s, or none."
use Rattle.std.specs.Prelude.{ℕ, ◌<◌, Bool, List, [], ◌∷◌, Option, Some, None, Result, Ok, Err}
use Rattle.rules.specs.Stable.{Set, FirstOf}
use Rattle.rules.specs.Map.{Holding, Over, Whole, side, signed, is, undecided}
use Rattle.rules.specs.Forcing.{Closed, Least, Contradiction, computed}
use Rattle.rules.specs.Inner.Bytes.{MapBytes}
use Rattle.rules.specs.Inner.Search.{ModelOver, Branch}
use Rattle.table.specs.Inner.Rows.{table_rules, table_sheet}
use Rattle.weigh.specs.declared.Clash.{Clash}
use Rattle.forcing.specs.Inner.Rounds.{LowestAt}

-- a closed map over a table, that holds the compute lists
pub record Standing (c : List ℕ) (n count : ℕ) (m : List ℕ) : Type 0 where
  pub proper : MapBytes n m
  pub closed : Closed (table_rules c count) n (side n m)
  pub held : Holding (computed (table_sheet c n count)) (side n m)

-- the same with an undecided atom, the lowest, at an index
pub record Open (c : List ℕ) (n count : ℕ) (m : List ℕ) (i : ℕ) : Type 0 where
  pub stands : Standing c n count m
  pub lowest : LowestAt n m (Some i)

pub record ClosedGuess (c : List ℕ) (n count : ℕ) (m : List ℕ) (a : ℕ) (s : Bool) (m' : List ℕ) : Type 0 where
  pub least : Least (Closed (table_rules c count) n) (Over (side n m) (signed s a ∷ [])) (side n m')
  pub proper : MapBytes n m'
  pub fewer : undecided n m' < undecided n m

-- the guess was closed, with fewer undecided atoms than before; or it has no closed map
abbrev pub Tried : List ℕ → ℕ → ℕ → List ℕ → ℕ → Bool → Result (List ℕ) Clash → Type 0
Tried c n count m a s (Ok m') = ClosedGuess c n count m a s m'
Tried c n count m a s (Err _) = Contradiction (Closed (table_rules c count) n) (Over (side n m) (signed s a ∷ []))

pub record Tries (c : List ℕ) (n count : ℕ) (m : List ℕ) (a : ℕ) (s : Bool) (r : Result (List ℕ) Clash) : Type 0 where
  pub tried : Tried c n count m a s r

-- the first of the sets that satisfy Q, as a map of 1s and 2s, or none does
abbrev pub FirstIn : ℕ → (Set → Type 0) → Option (List ℕ) → Type 0
FirstIn n Q (Some m) = FirstOf Q (is 1 (side n m)) × Whole n m
FirstIn n Q None = (X : Set) → Q X → ⊥

-- the first model above the map
pub record Answers (c : List ℕ) (n count : ℕ) (m : List ℕ) (r : Option (List ℕ)) : Type 0 where
  pub answer : FirstIn n (ModelOver (table_sheet c n count) (side n m)) r

-- the first of those that have the guessed literal
pub record Follows (c : List ℕ) (n count : ℕ) (m : List ℕ) (a : ℕ) (s : Bool) (r : Option (List ℕ)) : Type 0 where
  pub answer : FirstIn n (Branch (table_sheet c n count) (side n m) a s) r
