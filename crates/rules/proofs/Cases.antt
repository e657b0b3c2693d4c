-- Every worked case of the table holds of the definitions: the computed opening and search, proved right, are run on each row and
-- compared with what the row expects, and the row's atoms with its n.
use Prim.Native.Nat.{ℕ}
use mathlib.Core.Path.{◌≡◌, subst}
use mathlib.Core.Bool.{Bool, true, false, ◌&&◌}
use mathlib.Core.List.Memᴰ
use mathlib.Core.List.{List, [], Memᴰ}
use lib.Dec.{T, eqb}
use Rattle.rules.specs.Sum.{tally, has}
use Rattle.rules.specs.Rule.{Rule, Weighted, Sheet, Within, body}
use Rattle.rules.specs.Stable.{value, Set, Model}
use Rattle.rules.specs.Map.{Literal, inside, side}
use Rattle.rules.specs.Shown.Cases.{WorkedCase, Expected, bytes, nothing, MapIs, ModelIs, Proved, worked_cases, repeat_cases, sheet}
use Rattle.rules.specs.Shown.Paper.{those}
use Rattle.rules.proofs.Fits.{Numbered}
use Rattle.rules.proofs.Tests.{T_and_left, T_and_right, T_eq, has_mem, T_false}
use Rattle.rules.proofs.Inside.{inside_within}
use Rattle.rules.proofs.Lists.{every, every_T}
use Rattle.rules.proofs.Same.{equal, equal_T}
use Rattle.rules.proofs.Fixpoint.{grow}
use Rattle.rules.proofs.Closing.{Ending, closed_at, clash, closing}
use Rattle.rules.proofs.Opening.{opening, opening_right, Opened, taking}
use Rattle.rules.proofs.Searching.{SearchAnswer, model, no_model, solving, solving_right, Solved, searching, lowest}

-- is every atom of the rule one of the n?
abbrev fitting : ℕ → Rule → Bool
fitting n r =
    every (inside n) r.heads
    && (every (λ (l : Weighted). inside n l.atom) r.pos && every (λ (l : Weighted). inside n l.atom) r.neg)

abbrev numbered : Sheet → Bool
numbered sh =
    every (fitting sh.atoms) sh.rules && (every (inside sh.atoms) sh.compute_in && every (inside sh.atoms) sh.compute_out)

numbered_T : (sh : Sheet) → T (numbered sh) → Numbered sh
numbered_T sh t = record { rules = record { head = head; literal = literal }; compute_in = λ a h. list sh.compute_in (T_and_left ins outs lists) a h; compute_out = λ a h. list sh.compute_out (T_and_right ins outs lists) a h }
  where
    n : ℕ
    n = sh.atoms

    ins : Bool
    ins = every (inside n) sh.compute_in

    outs : Bool
    outs = every (inside n) sh.compute_out

    lists : T (ins && outs)
    lists = T_and_right (every (fitting n) sh.rules) (ins && outs) t

    list : (xs : List ℕ) → T (every (inside n) xs) → (a : ℕ) → T (has a xs) → Within n a
    list xs u a h = inside_within n a (every_T (inside n) xs u a (has_mem a xs h))

    fits : (r : Rule) → Memᴰ r sh.rules → T (fitting n r)
    fits r m = every_T (fitting n) sh.rules (T_and_left (every (fitting n) sh.rules) (ins && outs) t) r m

    within : Weighted → Bool
    within l = inside n l.atom

    head : (r : Rule) → Memᴰ r sh.rules → (a : ℕ) → T (has a r.heads) → Within n a
    head r m a h = list r.heads (T_and_left (every (inside n) r.heads) (every within r.pos && every within r.neg) (fits r m)) a h

    bodies : (r : Rule) → Memᴰ r sh.rules → T (every within r.pos && every within r.neg)
    bodies r m = T_and_right (every (inside n) r.heads) (every within r.pos && every within r.neg) (fits r m)

    literal : (r : Rule) → Memᴰ r sh.rules → (s : Bool) (l : Weighted) → Memᴰ l (body r s) → Within n l.atom
    literal r m true l i = inside_within n l.atom (every_T within r.pos (T_and_left (every within r.pos) (every within r.neg) (bodies r m)) l i)
    literal r m false l i = inside_within n l.atom (every_T within r.neg (T_and_right (every within r.pos) (every within r.neg) (bodies r m)) l i)

abbrev ends_as : Ending → Expected → Bool
ends_as (closed_at m) (bytes q) = equal eqb m q
ends_as (closed_at m) nothing = false
ends_as clash (bytes q) = false
ends_as clash nothing = true

abbrev finds_as : SearchAnswer → Expected → Bool
finds_as (model m) (bytes q) = equal eqb m q
finds_as (model m) nothing = false
finds_as no_model (bytes q) = false
finds_as no_model nothing = true

abbrev pub holds : WorkedCase → Bool
holds c =
    numbered c.sheet
    && (every (λ (p : Literal). inside c.sheet.atoms p.atom) c.pins
    && (ends_as (opening c.sheet c.pins) c.map && finds_as (solving c.sheet) c.model))

all_hold : T (every holds worked_cases)
unfolding worked_cases tally has value side those grow closing taking opening lowest searching solving
all_hold = tt

module _ (c : WorkedCase) (t : T (holds c)) where
  abbrev sh : Sheet
  sh = c.sheet

  abbrev pinned : Bool
  pinned = every (λ (p : Literal). inside sh.atoms p.atom) c.pins

  abbrev run : Bool
  run = ends_as (opening sh c.pins) c.map && finds_as (solving sh) c.model

  ok : Numbered sh
  ok = numbered_T sh (T_and_left (numbered sh) (pinned && run) t)

  pins_within : (p : Literal) → Memᴰ p c.pins → Within sh.atoms p.atom
  pins_within p m =
      inside_within
      sh.atoms
      p.atom
      (every_T (λ (q : Literal). inside sh.atoms q.atom) c.pins (T_and_left pinned run (T_and_right (numbered sh) (pinned && run) t)) p m)

  map_ends : (e : Ending) (x : Expected) → T (ends_as e x) → Opened sh c.pins e → MapIs sh c.pins x
  map_ends (closed_at m) (bytes q) u r =
      subst (λ (b : List ℕ). MapIs sh c.pins (bytes b)) (equal_T eqb (λ x y. T_eq) m q u) r.0
  map_ends (closed_at m) nothing u r = absurd u
  map_ends clash (bytes q) u r = absurd u
  map_ends clash nothing u r = r

  model_ends : (f : SearchAnswer) (x : Expected) → T (finds_as f x) → Solved sh f → ModelIs sh x
  model_ends (model m) (bytes q) u r = subst (λ (b : List ℕ). ModelIs sh (bytes b)) (equal_T eqb (λ x y. T_eq) m q u) r
  model_ends (model m) nothing u r = absurd u
  model_ends no_model (bytes q) u r = absurd u
  model_ends no_model nothing u r = r

  ran : T run
  ran = T_and_right pinned run (T_and_right (numbered sh) (pinned && run) t)

  pub case_proved : Proved c
  case_proved =
      record {
        map =
            map_ends
            (opening sh c.pins)
            c.map
            (T_and_left (ends_as (opening sh c.pins) c.map) (finds_as (solving sh) c.model) ran)
            (opening_right ok c.pins pins_within);
        model =
            model_ends
            (solving sh)
            c.model
            (T_and_right (ends_as (opening sh c.pins) c.map) (finds_as (solving sh) c.model) ran)
            (solving_right ok);
      }

-- the tables
pub cases_proved : (c : WorkedCase) → Memᴰ c worked_cases → Proved c
cases_proved c m = case_proved c (every_T holds worked_cases all_hold c m)

repeats_hold : T (every holds repeat_cases)
unfolding repeat_cases tally has value side those grow closing taking opening lowest searching solving
repeats_hold = tt

pub repeats_proved : (c : WorkedCase) → Memᴰ c repeat_cases → Proved c
repeats_proved c m = case_proved c (every_T holds repeat_cases repeats_hold c m)

-- "no atoms, no rules: one model, empty": every model of that sheet is empty, and by the table the empty set is one
pub only_empty : (S : Set) → Model (sheet 0 []) S → (a : ℕ) → S a ≡ false
only_empty S md a =
    T_false (S a) (λ t. md.stable.smallest (λ _. false) (λ r m. absurd (Memᴰ.not-nil m)) a t)
