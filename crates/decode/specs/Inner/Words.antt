-- "Each rule has a need and each body literal a weight." The words of a table after such numbers were written, one after another,
-- from a place on.
use Rattle.std.specs.Prelude.{ℕ, ◌+◌, List, [], ◌∷◌, set}

unfoldable pub with_words : List ℕ → ℕ → List ℕ → List ℕ
with_words c i [] = c
with_words c i (v ∷ vs) = with_words (set c i v) (i + 1) vs
