-- Lines that are computed from the definitions.
use Prim.Native.Nat.{ℕ}
use mathlib.Core.Path.{◌≡◌, refl}
use mathlib.Core.List.{List, [], ◌∷◌}
use Rattle.text.specs.Line.{digits_in, digits, spaced, spaced_all, in_atoms, model_line, none_line, refused_line}

-- MODEL 1, MODEL, and MODEL 2 10 of ten atoms
abbrev pub models : List (List ℕ)
models =
    (77 ∷ 79 ∷ 68 ∷ 69 ∷ 76 ∷ 32 ∷ 49 ∷ 10 ∷ [])
    ∷ (77 ∷ 79 ∷ 68 ∷ 69 ∷ 76 ∷ 10 ∷ [])
    ∷ (77 ∷ 79 ∷ 68 ∷ 69 ∷ 76 ∷ 32 ∷ 50 ∷ 32 ∷ 49 ∷ 48 ∷ 10 ∷ [])
    ∷ []

pub models_computed :
    (model_line 2 (1 ∷ 2 ∷ []) ∷ model_line 0 [] ∷ model_line 10 (2 ∷ 1 ∷ 2 ∷ 2 ∷ 2 ∷ 2 ∷ 2 ∷ 2 ∷ 2 ∷ 1 ∷ 1 ∷ []) ∷ [])
    ≡ models
unfolding model_line spaced_all spaced digits digits_in in_atoms
models_computed = refl

-- NONE, REFUSED 8 65535, and REFUSED 1 0
abbrev pub refusals : List (List ℕ)
refusals =
    (78 ∷ 79 ∷ 78 ∷ 69 ∷ 10 ∷ [])
    ∷ (82 ∷ 69 ∷ 70 ∷ 85 ∷ 83 ∷ 69 ∷ 68 ∷ 32 ∷ 56 ∷ 32 ∷ 54 ∷ 53 ∷ 53 ∷ 51 ∷ 53 ∷ 10 ∷ [])
    ∷ (82 ∷ 69 ∷ 70 ∷ 85 ∷ 83 ∷ 69 ∷ 68 ∷ 32 ∷ 49 ∷ 32 ∷ 48 ∷ 10 ∷ [])
    ∷ []

pub refusals_computed : (none_line ∷ refused_line 8 65535 ∷ refused_line 1 0 ∷ []) ≡ refusals
unfolding none_line refused_line spaced digits digits_in
refusals_computed = refl
