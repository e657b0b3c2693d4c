-- The order of a pass over the rules: up, or down.
use Rattle.std.specs.Prelude.{ℕ, ◌-◌, Bool, true, false}

-- the rule that is visited as the i-th of so many
unfoldable pub placed : Bool → ℕ → ℕ → ℕ
placed true count i = count - 1 - i
placed false count i = i
