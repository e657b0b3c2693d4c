-- A weight rule has, after its body, "one weight (0 to 1,000,000) for each positive and then for each negative literal": the literals of
-- the other kinds are read without weights.
use Rattle.std.specs.Prelude.{ℕ, Bool, true, false}
use Rattle.numbers.specs.Answer.{span}
use Rattle.numbers.specs.declared.Span.{Span}
use Rattle.sheet.specs.declared.SheetKind.{SheetKind}
use Rattle.sheet.specs.declared.SheetKind.TheVariants.{Basic, Constraint, Choice, Weight}
use Rattle.sheet.specs.declared.Literals.{Literals}

abbrev pub is_plain : SheetKind → Bool
is_plain (Basic head) = true
is_plain (Constraint head bound) = true
is_plain (Choice heads) = true
is_plain (Weight head bound) = false

-- the literals of a list, with no weights, at the place where they would begin
abbrev pub unweighed : Span → ℕ → Literals
unweighed atoms at = record { atoms = atoms; weights = span 0 at at }
