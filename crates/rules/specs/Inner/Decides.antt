-- What a function promises that answers a question with yes or no.
use Rattle.std.specs.Prelude.{Bool, true, false}

-- an answer tells whether it is so
abbrev pub Whether : Bool → Type 0 → Type 0
Whether true Q = Q
Whether false Q = Q → ⊥

pub record Decides (b : Bool) (Q : Type 0) : Type 0 where
  pub decides : Whether b Q
