-- "writes the smallest closed map holding the compute lists", "holding the old map and the pin": what the work of a call comes to.
use Rattle.std.specs.Prelude.{ℕ, ◌≡◌, List, Option, Some, None, Result, Ok, Err}
use Rattle.rules.specs.Rule.{Sheet}
use Rattle.rules.specs.Map.{Map, side, undecided}
use Rattle.rules.specs.Inner.Bytes.{Room}
use Rattle.rules.specs.Forcing.{Closed, Least, Contradiction}
use Rattle.weigh.specs.Inner.Step.{Kept}
use Rattle.weigh.specs.declared.Clash.{Clash}
use Rattle.task.specs.declared.closed.ClosedMap.{ClosedMap}

-- the smallest closed map that meets a question, with its number of undecided atoms
pub record IsLeast (sh : Sheet) (Q : Map → Type 0) (m : List ℕ) (k : ℕ) : Type 0 where
  pub least : Least (Closed sh.rules sh.atoms) Q (side sh.atoms m)
  pub open' : k ≡ undecided sh.atoms m
  pub room : Room sh.atoms m

-- or there is none
abbrev pub ClosedFor : Sheet → (Map → Type 0) → Option ClosedMap → Type 0
ClosedFor sh Q (Some x) = IsLeast sh Q x.map x.undecided
ClosedFor sh Q None = Contradiction (Closed sh.rules sh.atoms) Q

-- the map that was closed in its place, where no clash was found
abbrev pub found_in : List ℕ → Result ℕ Clash → Option ClosedMap
found_in m (Ok k) = Some (record { map = m; undecided = k })
found_in m (Err _) = None

-- the same of a map that was closed in its place
abbrev pub ClosedIn : Sheet → (Map → Type 0) → List ℕ → Result ℕ Clash → Type 0
ClosedIn sh Q m' (Ok k) = IsLeast sh Q m' k
ClosedIn sh Q m' (Err _) = Contradiction (Closed sh.rules sh.atoms) Q

pub record Finishes (sh : Sheet) (Q : Map → Type 0) (m m' : List ℕ) (r : Result ℕ Clash) : Type 0 where
  pub kept : Kept sh.atoms m m'
  pub closed : ClosedIn sh Q m' r
