-- Tight: two lines that are one text are equal in how many bytes they have and in each of these, since both have the text's.
use mathlib.Core.Path.{◌≡◌, sym, ◌∙◌, ap}
use mathlib.Core.List.{List}
use Prim.Native.Nat.{ℕ}
use lib.ListN.{length}
use Rattle.arrayvec.specs.ArrayString.{ArrayString, array_string_len}
use Rattle.text.specs.Line.{Spells}

pub holds_tight :
    (line line' : ArrayString) (text : List ℕ) → Spells line text → Spells line' text
    → (array_string_len line ≡ array_string_len line') × (line.bytes ≡ line'.bytes)
holds_tight line line' text h h' = let same : line.bytes ≡ line'.bytes = h ∙ sym h' in (ap length same, same)
