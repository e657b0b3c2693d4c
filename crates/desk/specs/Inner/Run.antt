-- The table on which a call's work is done: it holds the sheet that the bytes mean, but each rule once; and the row of the rule at an index.
use Rattle.std.specs.Prelude.{ℕ, ◌<◌, ◌≡◌, List, get_or}
use Rattle.rules.specs.Rule.{Shuffled, no_rule}
use Rattle.sheet.specs.Meaning.{sheet_meant}
use Rattle.sheet.specs.declared.Outline.{Outline}
use Rattle.table.specs.Inner.Rows.{row_rule, table_sheet}

-- the table's words, its atom and its rule count; and the row's words, its atom count and its place
pub record Stands (s : List ℕ) (o : Outline) (wanted : ℕ) (c : List ℕ) (n count : ℕ) (d : List ℕ) (k at : ℕ) : Type 0 where
  pub atoms : n ≡ o.atoms
  pub sheet : Shuffled (table_sheet c n count) (sheet_meant s o)
  pub row_atoms : k ≡ o.atoms
  pub row : wanted < o.rules.value → row_rule d at ≡ get_or (sheet_meant s o).rules wanted no_rule
