-- A task comes to the same on every sheet of the same set of rules: their closed maps and their models are the same. What is asked of a
-- rule is asked of that rule.
use Prim.Native.Nat.{ℕ}
use mathlib.Core.Path.{◌≡◌, refl, sym, ◌∙◌, ap, ap₂, subst}
use mathlib.Core.List.{List}
use Rattle.std.specs.Prelude.{Option, Some, None}
use Rattle.rules.specs.Rule.{Rule, Sheet, Shuffled, part_of}
use Rattle.rules.specs.Stable.{Model, First}
use Rattle.rules.specs.Map.{Map, Literal, Holding, Over, Whole, side, is, margin, undecided}
use Rattle.rules.specs.Forcing.{Closed, Least, computed}
use Rattle.rules.specs.Inner.Bytes.{Room}
use Rattle.rules.proofs.Shuffle.{shuffled_sym, model_shuffled, first_shuffled, computed_same, least_asked, contradiction_asked}
use Rattle.search.specs.Inner.Search.{FirstIn}
use Rattle.task.specs.Inner.Closed.{ClosedFor}
use Rattle.task.specs.Inner.Performs.{Task, opening, pinning, holding, solving, asking_margin, asking_part, Performs, SameAsked}
use Rattle.task.specs.declared.closed.ClosedMap.{ClosedMap}

module _ {sh sh' : Sheet} (k : Shuffled sh sh') where
  pub closed_for :
      (Q Q' : Map → Type 0) → ((X : Map) → Q X → Q' X) → ((X : Map) → Q' X → Q X) → (x : Option ClosedMap) → ClosedFor sh Q x
      → ClosedFor sh' Q' x
  closed_for Q Q' onto back (Some x) l =
      record {
        least = subst (λ (n : ℕ). Least (Closed sh'.rules sh'.atoms) Q' (side n x.map)) k.atoms (least_asked k Q Q' onto back l.least);
        open' = l.open' ∙ ap (λ (n : ℕ). undecided n x.map) k.atoms;
        room = subst (λ (n : ℕ). Room n x.map) k.atoms l.room;
      }
  closed_for Q Q' onto back None none = contradiction_asked k Q Q' back none

  pub first_in : (r : Option (List ℕ)) → FirstIn sh.atoms (Model sh) r → FirstIn sh'.atoms (Model sh') r
  first_in (Some m') (first, whole) = (
    subst (λ (n : ℕ). First sh' (is 1 (side n m'))) k.atoms (first_shuffled k _ first),
    subst (λ (n : ℕ). Whole n m') k.atoms whole,
  )
  first_in None none = λ S md. none S (model_shuffled (shuffled_sym k) S md)

  -- the questions of the calls: the compute lists alone, and literals above the same bytes
  over : (m : List ℕ) {ps qs : List Literal} → ps ≡ qs → (X : Map) → Over (side sh.atoms m) ps X → Over (side sh'.atoms m) qs X
  over m {ps} {qs} e X h =
      subst (λ (n : ℕ). Over (side n m) qs X) k.atoms (subst (λ (ls : List Literal). Over (side sh.atoms m) ls X) e h)

  pub over_shuffled :
      (m : List ℕ) {ps qs : List Literal} → ps ≡ qs → (x : Option ClosedMap) → ClosedFor sh (Over (side sh.atoms m) ps) x
      → ClosedFor sh' (Over (side sh'.atoms m) qs) x
  over_shuffled m {ps} {qs} e x c = closed_for (Over (side sh.atoms m) ps) (Over (side sh'.atoms m) qs) (over m e) back x c
    where
      back : (X : Map) → Over (side sh'.atoms m) qs X → Over (side sh.atoms m) ps X
      back X h =
          subst (λ (n : ℕ). Over (side n m) ps X) (sym k.atoms) (subst (λ (ls : List Literal). Over (side sh'.atoms m) ls X) (sym e) h)

  pub held_shuffled : (x : Option ClosedMap) → ClosedFor sh (Holding (computed sh)) x → ClosedFor sh' (Holding (computed sh')) x
  held_shuffled x c =
      closed_for (Holding (computed sh)) (Holding (computed sh')) (λ X h. subst (λ (ls : List Literal). Holding ls X) (computed_same k) h)
      (λ X h. subst (λ (ls : List Literal). Holding ls X) (sym (computed_same k)) h)
      x
      c

  -- so of every task, and what is asked of a rule is asked of that rule
  pub performs_shuffled : (r q : Rule) (t : Task) → SameAsked t r q → Performs sh r t → Performs sh' q t
  performs_shuffled r q (opening x) same c = held_shuffled x c
  performs_shuffled r q (pinning m p x) same c = over_shuffled m refl x c
  performs_shuffled r q (holding m x) same c = over_shuffled m (computed_same k) x c
  performs_shuffled r q (solving y) same c = first_in y c
  performs_shuffled r q (asking_margin m z) same c =
      c ∙ ap₂ (λ (x : Rule) (n : ℕ). margin x (side n m)) same k.atoms
  performs_shuffled r q (asking_part p i x) same c = c ∙ ap (λ (x : Rule). part_of x p i) same
