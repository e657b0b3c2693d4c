-- "An atom number and a rule number are different kinds of number and must not be mixed." Each is made of a plain number only
-- where that number is one of 1 to the sheet's count.
use Rattle.std.specs.Prelude.{ℕ, Option, Some, None}
use Rattle.rules.specs.Sum.{pick}
use Rattle.rules.specs.Map.{inside}
use Rattle.rules.specs.declared.Atom.{Atom}
use Rattle.rules.specs.declared.RuleNo.{RuleNo}

-- the atom of this number, among n
unfoldable pub checked_atom : ℕ → ℕ → Option Atom
checked_atom n a = pick (inside n a) (Some (record { number = a })) None

-- the rule of this number, among count
unfoldable pub checked_rule : ℕ → ℕ → Option RuleNo
checked_rule count r = pick (inside count r) (Some (record { number = r })) None
