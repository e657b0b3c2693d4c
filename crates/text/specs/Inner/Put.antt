-- A text that is put at the end of a line must fit into it.
use Rattle.std.specs.Prelude.{ℕ, ◌+◌, ◌≤◌, List, length}
use Rattle.arrayvec.specs.ArrayString.{ArrayString, array_string_len}

-- how many bytes a line has at most
abbrev pub line_most : ℕ
line_most = 4096

abbrev pub Fits : ArrayString → List ℕ → Type 0
Fits line text = array_string_len line + length text ≤ line_most
