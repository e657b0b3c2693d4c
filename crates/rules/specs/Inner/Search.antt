-- "The search takes the lowest undecided atom, first with the atom in, then with it out."
use Rattle.std.specs.Prelude.{ℕ, Bool, true, false, T}
use Rattle.rules.specs.Rule.{Sheet}
use Rattle.rules.specs.Stable.{Set, outside, Model}
use Rattle.rules.specs.Map.{Map, total, ◌⊑◌}

-- an agreeing stable model that a map has not ruled out
abbrev pub ModelOver : Sheet → Map → Set → Type 0
ModelOver sh M S = Model sh S × (M ⊑ total sh.atoms S)

-- a set on a literal's side: it has the atom, or not
abbrev pub OnSide : Bool → Set → ℕ → Type 0
OnSide true X a = T (X a)
OnSide false X a = T (outside X a)

-- the models above a map that have the guessed literal
abbrev pub Branch : Sheet → Map → ℕ → Bool → Set → Type 0
Branch sh M a s X = ModelOver sh M X × OnSide s X a
