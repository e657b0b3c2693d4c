-- The worked cases that are proved of the definitions: a sheet's rules and compute lists, pins, the map after open and pins (or
-- nothing, for a contradiction), and the first model as a map of 1s and 2s (or nothing, for none).
use Rattle.std.specs.Prelude.{ℕ, false, true, List, [], ◌∷◌}
use Rattle.rules.specs.Rule.{Rule, Sheet, weighted, basic_rule, constraint_rule, choice_rule, weight_rule}
use Rattle.rules.specs.Stable.{First, NoModel}
use Rattle.rules.specs.Map.{Literal, side, is, signed}
use Rattle.rules.specs.Forcing.{Least, Contradiction, Pinned, Closed}

pub data Expected : Type 0 where
  bytes : List ℕ → Expected
  nothing : Expected

pub record WorkedCase : Type 0 where
  pub sheet : Sheet
  pub pins : List Literal
  pub map : Expected
  pub model : Expected

-- the map is the smallest closed map that holds the pins and compute lists, or there is none
abbrev pub MapIs : Sheet → List Literal → Expected → Type 0
MapIs sh ps (bytes m) = Least (Closed sh.rules sh.atoms) (Pinned sh ps) (side sh.atoms m)
MapIs sh ps nothing = Contradiction (Closed sh.rules sh.atoms) (Pinned sh ps)

-- the model is the first in the order of models, or there is none
abbrev pub ModelIs : Sheet → Expected → Type 0
ModelIs sh (bytes m) = First sh (is 1 (side sh.atoms m))
ModelIs sh nothing = NoModel sh

pub record Proved (c : WorkedCase) : Type 0 where
  pub map : MapIs c.sheet c.pins c.map
  pub model : ModelIs c.sheet c.model

abbrev pub sheet : ℕ → List Rule → Sheet
sheet n rs = record { atoms = n; rules = rs; compute_in = []; compute_out = [] }

abbrev numbers : List ℕ → Expected
numbers m = bytes m

-- 1 to 5, of which 2 to 5 may be chosen, and two of them give 1
abbrev two_of_four : Sheet
two_of_four =
    sheet 5 (choice_rule (2 ∷ 3 ∷ 4 ∷ 5 ∷ []) [] [] ∷ constraint_rule 1 2 (2 ∷ 3 ∷ 4 ∷ 5 ∷ []) [] ∷ [])

unfoldable pub worked_cases : List WorkedCase
worked_cases =
    record { sheet = sheet 0 []; pins = []; map = numbers []; model = numbers [] }
    ∷ record { sheet = sheet 1 (basic_rule 1 (1 ∷ []) [] ∷ []); pins = []; map = numbers (2 ∷ []); model = numbers (2 ∷ []) }
    ∷ record { sheet = sheet 1 (basic_rule 1 [] (1 ∷ []) ∷ []); pins = []; map = numbers (0 ∷ []); model = nothing }
    ∷ record {
      sheet = sheet 2 (basic_rule 1 [] (2 ∷ []) ∷ basic_rule 2 [] (1 ∷ []) ∷ []);
      pins = [];
      map = numbers (0 ∷ 0 ∷ []);
      model = numbers (1 ∷ 2 ∷ []);
    }
    ∷ record { sheet = sheet 1 (choice_rule (1 ∷ []) [] [] ∷ []); pins = []; map = numbers (0 ∷ []); model = numbers (1 ∷ []) }
    ∷ record {
      sheet = sheet 3 (basic_rule 1 (2 ∷ []) [] ∷ basic_rule 2 (1 ∷ []) [] ∷ basic_rule 3 [] (1 ∷ []) ∷ []);
      pins = [];
      map = numbers (2 ∷ 2 ∷ 1 ∷ []);
      model = numbers (2 ∷ 2 ∷ 1 ∷ []);
    }
    ∷ record {
      sheet = sheet 2 (constraint_rule 1 0 (2 ∷ []) [] ∷ []);
      pins = [];
      map = numbers (1 ∷ 2 ∷ []);
      model = numbers (1 ∷ 2 ∷ []);
    }
    ∷ record {
      sheet = record { atoms = 1; rules = choice_rule (1 ∷ []) [] [] ∷ []; compute_in = 1 ∷ []; compute_out = 1 ∷ [] };
      pins = [];
      map = nothing;
      model = nothing;
    }
    ∷ record {
      sheet = two_of_four;
      pins = signed false 1 ∷ signed true 2 ∷ [];
      map = numbers (2 ∷ 1 ∷ 2 ∷ 2 ∷ 2 ∷ []);
      model = numbers (1 ∷ 1 ∷ 1 ∷ 1 ∷ 1 ∷ []);
    }
    ∷ record {
      sheet = two_of_four;
      pins = signed true 1 ∷ signed false 2 ∷ signed false 3 ∷ [];
      map = numbers (1 ∷ 2 ∷ 2 ∷ 1 ∷ 1 ∷ []);
      model = numbers (1 ∷ 1 ∷ 1 ∷ 1 ∷ 1 ∷ []);
    }
    ∷ record {
      sheet = sheet 4 (choice_rule (2 ∷ 3 ∷ 4 ∷ []) [] [] ∷ weight_rule 1 6 (weighted 2 3 ∷ weighted 3 4 ∷ []) (weighted 4 2 ∷ []) ∷ []);
      pins = signed true 1 ∷ [];
      map = numbers (1 ∷ 0 ∷ 1 ∷ 0 ∷ []);
      model = numbers (1 ∷ 1 ∷ 1 ∷ 1 ∷ []);
    }
    ∷ []

-- 2 may be chosen, these rules give 1, and 1 is pinned: both can be in
abbrev pinned_one : List Rule → List ℕ → WorkedCase
pinned_one rs m =
    record { sheet = sheet 2 (choice_rule (2 ∷ []) [] [] ∷ rs); pins = signed true 1 ∷ []; map = numbers m; model = numbers (1 ∷ 1 ∷ []) }

-- "Two copies of the only rule for an atom" force as one does; the same meaning in another kind is another rule, and nothing is forced
unfoldable pub repeat_cases : List WorkedCase
repeat_cases =
    pinned_one (basic_rule 1 (2 ∷ []) [] ∷ []) (1 ∷ 1 ∷ [])
    ∷ pinned_one (basic_rule 1 (2 ∷ []) [] ∷ basic_rule 1 (2 ∷ []) [] ∷ []) (1 ∷ 1 ∷ [])
    ∷ pinned_one (basic_rule 1 (2 ∷ []) [] ∷ constraint_rule 1 1 (2 ∷ []) [] ∷ []) (1 ∷ 0 ∷ [])
    ∷ pinned_one (constraint_rule 1 1 (2 ∷ []) [] ∷ weight_rule 1 1 (weighted 2 1 ∷ []) [] ∷ []) (1 ∷ 0 ∷ [])
    ∷ pinned_one (weight_rule 1 1 (weighted 2 1 ∷ []) [] ∷ weight_rule 1 1 (weighted 2 2 ∷ []) [] ∷ []) (1 ∷ 0 ∷ [])
    ∷ []
