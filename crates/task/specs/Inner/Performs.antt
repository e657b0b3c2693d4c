-- What each task of a call comes to, on a sheet and on the rule that is asked of: the smallest closed map that answers a question, the first
-- model, or what is asked of the rule.
use Rattle.std.specs.Prelude.{ℕ, ℤ, ◌≡◌, List, [], ◌∷◌, Option}
use Rattle.rules.specs.Rule.{Rule, Sheet, part_of}
use Rattle.rules.specs.Stable.{Model}
use Rattle.rules.specs.Map.{Literal, Holding, Over, side, margin}
use Rattle.rules.specs.Forcing.{computed}
use Rattle.search.specs.Inner.Search.{FirstIn}
use Rattle.task.specs.Inner.Closed.{ClosedFor}
use Rattle.task.specs.declared.closed.ClosedMap.{ClosedMap}

-- a task, and what it came to: open, pin and test of a map, solve; margin on a map, and a part by its number and an index
pub data Task : Type 0 where
  opening : Option ClosedMap → Task
  pinning : List ℕ → Literal → Option ClosedMap → Task
  holding : List ℕ → Option ClosedMap → Task
  solving : Option (List ℕ) → Task
  asking_margin : List ℕ → ℤ → Task
  asking_part : ℕ → ℕ → Option ℕ → Task

abbrev pub Performs : Sheet → Rule → Task → Type 0
Performs sh r (opening x) = ClosedFor sh (Holding (computed sh)) x
Performs sh r (pinning m p x) = ClosedFor sh (Over (side sh.atoms m) (p ∷ [])) x
Performs sh r (holding m x) = ClosedFor sh (Over (side sh.atoms m) (computed sh)) x
Performs sh r (solving y) = FirstIn sh.atoms (Model sh) y
Performs sh r (asking_margin m z) = z ≡ margin r (side sh.atoms m)
Performs sh r (asking_part p i x) = x ≡ part_of r p i

-- a task that asks of a rule asks of the same
abbrev pub SameAsked : Task → Rule → Rule → Type 0
SameAsked (opening x) r q = Unit
SameAsked (pinning m p x) r q = Unit
SameAsked (holding m x) r q = Unit
SameAsked (solving y) r q = Unit
SameAsked (asking_margin m z) r q = r ≡ q
SameAsked (asking_part p i x) r q = r ≡ q
