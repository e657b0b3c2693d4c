-- "a reader that is a struct holding a reference to the sheet and a place": how it starts, what its next step is, where it goes on, and
-- whether it is at the end.
use Rattle.std.specs.Prelude.{ℕ, Bool, List}
use Rattle.std.specs.Borrow.{Bor}
use Rattle.reader.specs.Place.{Place, NextRule, first_place, step_at, place_after, at_end}
use Rattle.reader.specs.declared.Reader.{Reader}

abbrev pub reader_at : Bor (List ℕ) → Place → Reader
reader_at sheet place = record { sheet = sheet; place = place }

abbrev pub start_of : Bor (List ℕ) → Reader
start_of sheet = reader_at sheet (first_place sheet.now)

abbrev pub next_of : Reader → NextRule
next_of reader = step_at reader.sheet.now reader.place

abbrev pub moved_to : Reader → Place → Reader
moved_to reader place = reader_at reader.sheet place

abbrev pub moved_on : Reader → Reader
moved_on reader = moved_to reader (place_after (next_of reader) reader.place)

abbrev pub is_end : Reader → Bool
is_end reader = at_end reader.place

-- the first step on a sheet
abbrev pub first_step : List ℕ → NextRule
first_step s = step_at s (first_place s)
