-- "The program writes one line: `MODEL` and the in-atoms, each after one space; or `NONE`; or `REFUSED` number place."
-- What the line says is what solve answers on a map of zeros with room for every sheet.
use Rattle.std.specs.Prelude.{ℕ, List, Ok, Err}
use Rattle.rules.specs.Map.{blank}
use Rattle.numbers.specs.Answer.{reason_number, read_then}
use Rattle.sheet.specs.Sheet.{sheet_read}
use Rattle.desk.specs.Promise.{Searched, Solves}
use Rattle.desk.specs.declared.Solved.TheVariants.{Model, NoModel}
use Rattle.text.specs.Line.{ArrayString, model_line, none_line, refused_line, Spells}

-- the atom count of a sheet; 0 where it is refused
unfoldable pub atoms_in : List ℕ → ℕ
atoms_in s = read_then (λ why. 0) (sheet_read s) (λ sheet. sheet.atoms)

-- the line of an answer, on a map of n atoms
abbrev pub line_of : Searched → ℕ → List ℕ → List ℕ
line_of (Ok Model) n m = model_line n m
line_of (Ok NoModel) n m = none_line
line_of (Err why) n m = refused_line (reason_number why.reason) why.place

-- the line is that of what solve answers
pub record Prints (s : List ℕ) (line : ArrayString) : Type 0 where
  pub answer : Searched
  pub map : List ℕ
  pub solves : Solves s blank map answer
  pub holds : Spells line (line_of answer (atoms_in s) map)
