-- "the smallest closed map holding the compute lists", "holding the old map and the pin": literals put on a map, or two of them clash.
use Rattle.std.specs.Prelude.{ℕ, List, Result, Ok, Err}
use Rattle.rules.specs.Map.{Map, Literal, Over, side, ◌⊑◌}
use Rattle.weigh.specs.Inner.Step.{Kept}
use Rattle.weigh.specs.declared.Clash.{Clash}

-- the maps above m' are exactly those above m that hold the literals, or there is none
abbrev pub Took : ℕ → List ℕ → List Literal → List ℕ → Result Unit Clash → Type 0
Took n m ps m' (Ok _) = ((X : Map) → side n m' ⊑ X → Over (side n m) ps X) × ((X : Map) → Over (side n m) ps X → side n m' ⊑ X)
Took n m ps m' (Err _) = (X : Map) → Over (side n m) ps X → ⊥

pub record Takes (n : ℕ) (m : List ℕ) (ps : List Literal) (m' : List ℕ) (r : Result Unit Clash) : Type 0 where
  pub kept : Kept n m m'
  pub took : Took n m ps m' r
