-- Tight: two answers that meet one promise for the same input are equal, since each promise names its answer.
use Prim.Native.Nat.{ℕ}
use mathlib.Core.Path.{◌≡◌, sym, ◌∙◌}
use mathlib.Core.Bool.{Bool}
use mathlib.Core.List.{List}
use denote.Ref.{Bor}
use Rattle.reader.specs.Place.{Place, NextRule, first_place, step_at, place_after, at_end}
use Rattle.reader.specs.Reader.{start_of, next_of, moved_to, moved_on, is_end, first_step}
use Rattle.reader.specs.declared.Reader.{Reader}

-- a promise that names its answer has one
named : {A : Type 0} (x a b : A) → a ≡ x → b ≡ x → a ≡ b
named x a b e f = e ∙ sym f

pub start : (sheet : Bor (List ℕ)) (a b : Reader) → a ≡ start_of sheet → b ≡ start_of sheet → a ≡ b
start sheet = named (start_of sheet)

pub next : (r : Reader) (a b : NextRule) → a ≡ next_of r → b ≡ next_of r → a ≡ b
next r = named (next_of r)

pub moved : (r : Reader) (place : Place) (a b : Reader) → a ≡ moved_to r place → b ≡ moved_to r place → a ≡ b
moved r place = named (moved_to r place)

-- in the answer and in the reader that was lent
pub advance :
    (r : Reader) (a b : NextRule) (p q : Reader) → (a ≡ next_of r) × (p ≡ moved_on r) → (b ≡ next_of r) × (q ≡ moved_on r)
    → (a ≡ b) × (p ≡ q)
advance r a b p q e f = (named (next_of r) a b e.0 f.0, named (moved_on r) p q e.1 f.1)

pub at_end_law : (r : Reader) (a b : Bool) → a ≡ is_end r → b ≡ is_end r → a ≡ b
at_end_law r = named (is_end r)

pub first_step_law : (s : List ℕ) (a b : NextRule) → a ≡ first_step s → b ≡ first_step s → a ≡ b
first_step_law s = named (first_step s)

pub first_place_law : (s : List ℕ) (a b : Place) → a ≡ first_place s → b ≡ first_place s → a ≡ b
first_place_law s = named (first_place s)

pub step_at_law : (s : List ℕ) (place : Place) (a b : NextRule) → a ≡ step_at s place → b ≡ step_at s place → a ≡ b
step_at_law s place = named (step_at s place)

pub place_after_law :
    (step : NextRule) (place a b : Place) → a ≡ place_after step place → b ≡ place_after step place → a ≡ b
place_after_law step place = named (place_after step place)

pub past_last : (place : Place) (a b : Bool) → a ≡ at_end place → b ≡ at_end place → a ≡ b
past_last place = named (at_end place)
