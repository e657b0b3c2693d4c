-- "Atom count n (0 to 512); rule count (0 to 2,048); the rules; the compute-in list; the compute-out list": an accepted sheet as a table,
-- one row for each rule, however often it stands, one for the compute lists and one more, then the pairs of their heads and literals. Two
-- words for each byte of the sheet and two more are enough.
use Rattle.std.specs.Prelude.{ℕ, ◌+◌, ◌*◌, ◌≤◌, ◌<◌, ◌≡◌, List, [], ◌∷◌, length, get_or, Ok}
use Rattle.rules.specs.Rule.{no_rule, Shuffled}
use Rattle.sheet.specs.Sheet.{sheet_read}
use Rattle.sheet.specs.Meaning.{sheet_meant}
use Rattle.sheet.specs.declared.Outline.{Outline}
use Rattle.table.specs.Inner.Words.{pair_width}
use Rattle.table.specs.Inner.Rows.{table_sheet, Laid}
use Rattle.decode.specs.declared.rows.Rows.{Rows}
use Rattle.decode.specs.declared.Contents.{Contents}
use Rattle.decode.specs.Inner.Rows.{first_pair, lists_rule, TableRoom, RowHas, Stood}

-- how many words the table of a sheet of so many bytes needs
unfoldable pub table_words : ℕ → ℕ
table_words bytes = pair_width * (bytes + 1)

-- most sheets are short: their bytes are at most so many, in four steps
unfoldable pub few_bytes : ℕ
few_bytes = 1024

unfoldable pub some_bytes : ℕ
some_bytes = 4096

unfoldable pub many_bytes : ℕ
many_bytes = 16384

unfoldable pub large_bytes : ℕ
large_bytes = 32768

pub record Decodable (s : List ℕ) (sheet : Outline) (c : List ℕ) : Type 0 where
  pub accepted : sheet_read s ≡ Ok sheet
  pub room : table_words (length s) ≤ length c

-- the rules are written, each once, and the compute lists, at a place of the sheet, are left; the rule at this index has a row
pub record WritesRules (s : List ℕ) (o : Outline) (wanted : ℕ) (c c' : List ℕ) (end : Rows) : Type 0 where
  pub stood :
      Stood (sheet_meant s o).rules (first_pair o.rules.value) c' o.rules.value end.count end.pair
  pub few : end.count ≤ o.rules.value
  pub room : TableRoom c' end.count end.pair (lists_rule (sheet_meant s o) ∷ [])
  pub row : wanted < o.rules.value → RowHas c' end.count (get_or (sheet_meant s o).rules wanted no_rule) end.row
  pub row_most : end.row ≤ o.rules.value
  pub place : end.next ≡ o.rules.next
  pub long : length c' ≡ length c

-- the table is that of a sheet, but that it holds each rule once; and the row of the rule at this index
pub record Decoded (s : List ℕ) (o : Outline) (wanted : ℕ) (c c' : List ℕ) (t : Contents) : Type 0 where
  pub laid : Laid c' o.atoms t.rules
  pub sheet : Shuffled (table_sheet c' o.atoms t.rules) (sheet_meant s o)
  pub row : wanted < o.rules.value → RowHas c' t.rules (get_or (sheet_meant s o).rules wanted no_rule) t.row
  pub row_most : t.row ≤ o.rules.value
  pub long : length c' ≡ length c
