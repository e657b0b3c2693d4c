-- The work of the calls, put together: literals held and the map closed are the smallest closed map that holds both; and the models above
-- the opened map are all that agree.
use Prim.Native.Nat.{ℕ, ◌≤◌}
use mathlib.Core.Path.{◌≡◌, sym, ◌∙◌, ap, subst}
use mathlib.Core.List.{List}
use Rattle.std.specs.Prelude.{Option, Some, None, Result, Ok, Err}
use Rattle.rules.specs.Inner.Search.{ModelOver}
use Rattle.rules.specs.Limits.{atoms_most}
use Rattle.rules.specs.Rule.{Sheet}
use Rattle.rules.specs.Stable.{Model}
use Rattle.rules.specs.Map.{Map, Literal, Holding, Over, Whole, side, ◌⊑◌, blank}
use Rattle.rules.specs.Forcing.{computed}
use Rattle.rules.specs.Inner.Bytes.{Room, MapBytes}
use Rattle.rules.proofs.Fits.{Numbered}
use Rattle.rules.proofs.Maps.{want_decided}
use Rattle.rules.proofs.Bytes.{map_side}
use Rattle.rules.proofs.Least.{least_same, contradiction_same}
use Rattle.rules.proofs.First.{first_above, all_above, none_at_all}
use Rattle.table.specs.Inner.Rows.{table_sheet, Laid}
use Rattle.table.proofs.Rows.{laid_numbered}
use Rattle.weigh.specs.declared.Clash.{Clash}
use Rattle.weigh.proofs.Steps.{kept_trans}
use Rattle.weigh.proofs.Bytes.{blank_proper, blank_side}
use Rattle.forcing.specs.Inner.Rounds.{ClosedAs, ClosesMap}
use Rattle.search.specs.Inner.Search.{Standing, FirstIn, Answers}
use Rattle.task.specs.Inner.Hold.{Takes}
use Rattle.task.specs.Inner.Closed.{ClosedFor, ClosedIn, found_in, Finishes}
use Rattle.task.specs.Inner.Copy.{first_bytes}
use Rattle.task.specs.declared.closed.ClosedMap.{ClosedMap}
use Rattle.task.proofs.bytes.Laws.{first_side}

-- held, and then closed
module _ (c : List ℕ) (n count : ℕ) {m m₁ : List ℕ} {ps : List Literal} where
  pub held_closed :
      {v : Unit} → Takes n m ps m₁ (Ok v) → {m₂ : List ℕ} (r : Result ℕ Clash) → ClosesMap c n count m₁ m₂ r
      → Finishes (table_sheet c n count) (Over (side n m) ps) m m₂ r
  held_closed t {m₂} r k = record { kept = kept_trans n m m₁ m₂ t.kept k.kept; closed = by r k.answers }
    where
      by : (x : Result ℕ Clash) → ClosedAs c n count m₁ m₂ x → ClosedIn (table_sheet c n count) (Over (side n m) ps) m₂ x
      by (Ok u) (l, e) =
          record {
            least = least_same (λ X. side n m₁ ⊑ X) (Over (side n m) ps) t.took.0 t.took.1 l;
            open' = e;
            room = k.kept.proper.room;
          }
      by (Err clash) none = contradiction_same (λ X. side n m₁ ⊑ X) (Over (side n m) ps) t.took.1 none

  pub held_none : (clash : Clash) → Takes n m ps m₁ (Err clash) → Finishes (table_sheet c n count) (Over (side n m) ps) m m₁ (Err clash)
  held_none clash t = record { kept = t.kept; closed = λ X x q. t.took X q }

-- on a blank map nothing but the literals is asked for
pub blank_below : (n : ℕ) → n ≤ atoms_most → (X : Map) → side n blank ⊑ X
blank_below n h X =
    record { keeps = λ s a e. absurd (want_decided s (sym e ∙ blank_side atoms_most n h a)) }

pub blank_fits : {n : ℕ} → n ≤ atoms_most → MapBytes n blank
blank_fits {n} few = blank_proper atoms_most n few

pub whole_map : {n : ℕ} {m : List ℕ} → Room n m → Whole n m → MapBytes n m
whole_map room whole = record { room = room; sides = λ i h. (whole i h).high }

-- what was found on a map that was closed in its place
pub found_for :
    (sh : Sheet) (Q : Map → Type 0) (m : List ℕ) (r : Result ℕ Clash) {x : Option ClosedMap} → ClosedIn sh Q m r → x ≡ found_in m r
    → ClosedFor sh Q x
found_for sh Q m r {x} f e = subst (ClosedFor sh Q) (sym e) (by r f)
  where
    by : (y : Result ℕ Clash) → ClosedIn sh Q m y → ClosedFor sh Q (found_in m y)
    by (Ok k) f = f
    by (Err clash) f = f

-- a question that is asked otherwise
pub asks_same :
    (sh : Sheet) (Q Q' : Map → Type 0) (x : Option ClosedMap) → ((X : Map) → Q X → Q' X) → ((X : Map) → Q' X → Q X) → ClosedFor sh Q x
    → ClosedFor sh Q' x
asks_same sh Q Q' (Some y) onto back l = record { least = least_same Q Q' onto back l.least; open' = l.open'; room = l.room }
asks_same sh Q Q' None onto back none = contradiction_same Q Q' back none

-- over a copy of a map
pub over_copy :
    (sh : Sheet) (m : List ℕ) (ps : List Literal) {w : List ℕ} (x : Option ClosedMap) → w ≡ first_bytes sh.atoms m blank → Room sh.atoms m
    → ClosedFor sh (Over (side sh.atoms w) ps) x → ClosedFor sh (Over (side sh.atoms m) ps) x
over_copy sh m ps x e room f =
    subst
    (λ (M : Map). ClosedFor sh (Over M ps) x)
    (ap (λ (l : List ℕ). side sh.atoms l) e ∙ sym (first_side sh.atoms m blank room))
    f

-- the models above the opened map are all that agree
module _ (c : List ℕ) (n count : ℕ) (laid : Laid c n count) where
  abbrev sh : Sheet
  sh = table_sheet c n count

  ok : Numbered sh
  ok = laid_numbered c n count laid

  -- over a blank map
  pub opened_for : (x : Option ClosedMap) → ClosedFor sh (Over (side n blank) (computed sh)) x → ClosedFor sh (Holding (computed sh)) x
  opened_for x f =
      asks_same sh (Over (side n blank) (computed sh)) (Holding (computed sh)) x (λ X q. q.holds)
      (λ X h. record { above = blank_below n laid.few_atoms X; holds = h })
      f

  pub opened_stands : (x : ClosedMap) → ClosedFor sh (Holding (computed sh)) (Some x) → Standing c n count x.map
  opened_stands x l =
      record {
        proper = record { room = l.room; sides = map_side n x.map l.least.closed.is_map };
        closed = l.least.closed;
        held = l.least.holding;
      }

  pub searched :
      (x : ClosedMap) → ClosedFor sh (Holding (computed sh)) (Some x) → (r : Option (List ℕ)) → Answers c n count x.map r
      → FirstIn n (Model sh) r
  searched x l r an = by r an.answer
    where
      by : (y : Option (List ℕ)) → FirstIn n (ModelOver sh (side n x.map)) y → FirstIn n (Model sh) y
      by (Some map) (first, whole) = (first_above ok l.least first, whole)
      by None none = λ X md. none X (all_above ok l.least X md)

  pub not_searched : ClosedFor sh (Holding (computed sh)) None → FirstIn n (Model sh) None
  not_searched none = none_at_all ok none
