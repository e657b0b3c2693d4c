-- Reading rules one after another gives exactly the rules of the sheet, in order, then the end. An accepted sheet has read as many rules as
-- it counts, each from where the one before it ended, and the reader's place goes the same way.
use Prim.Native.Nat.{ℕ, zero, suc, ◌-◌}
use mathlib.Core.Path.{◌≡◌, refl, sym, ap, ap₂, ◌∙◌}
use mathlib.Core.Bool.{Bool}
use mathlib.Core.List.{List, ◌∷◌, map}
use native.Mathlib.Omega.{arith}
use borrow.Author.Tests.{ne_eqb}
use denote.Ref.{Bor}
use Rattle.std.specs.Prelude.{Some, None, Result, Ok, Err}
use Rattle.rules.specs.Rule.{Rule, Sheet}
use Rattle.rules.specs.Sum.{pick}
use Rattle.numbers.specs.Answer.{read_then}
use Rattle.numbers.specs.Lists.{in_turn, up_to}
use Rattle.numbers.specs.declared.Refusal.{Refusal}
use Rattle.numbers.specs.declared.Span.{Span}
use Rattle.numbers.proofs.lists.Most.{run_keeps}
use Rattle.sheet.specs.Rule.{rule_at, rule_step, rules_at}
use Rattle.sheet.specs.Sheet.{sheet_read}
use Rattle.sheet.specs.RuleMeaning.{rule_meant}
use Rattle.sheet.specs.Meaning.{Reading as Meaning, accepted, refused, rules_from, sheet_meant, sheet_of}
use Rattle.sheet.specs.declared.SheetRule.{SheetRule}
use Rattle.sheet.specs.declared.Outline.{Outline}
use Rattle.sheet.proofs.Accepted.{outlined}
use Rattle.sheet.proofs.sheet.Rules.{rules_next, rules_more}
use Rattle.sheet.proofs.sheet.Ran.{parts}
use Rattle.reader.specs.Place.{Place, NextRule, stop_at, all_rules, after, stepped, first_place, rest_step, step_at, place_after}
use Rattle.reader.specs.Reader.{start_of, next_of, moved_to}
use Rattle.reader.specs.ReadOut.{ReadOut, stopped, and_rule, step_then, read_on, left_at, read_all, read_by, read_through}
use Rattle.reader.specs.declared.Reader.{Reader}
use Rattle.reader.specs.declared.Rest.{Rest}

abbrev rest : ℕ → ℕ → ℕ → Rest
rest n left at = record { atoms = n; left = left; at = at }

-- the rules that were read mean these, and the end comes after them
pub record WholeReading (s : List ℕ) (reading : ReadOut) (rules : List Rule) : Type 0 where
  pub in_order : map (rule_meant s) reading.rules ≡ rules
  pub then_end : reading.last ≡ Ok None

-- a rule that is read comes first, and the reader goes on from where it ends
step_read :
    (s : List ℕ) (n left at : ℕ) (r : SheetRule) → rule_at s n at ≡ Ok r
    → step_at s (Ok (rest n (suc left) at)) ≡ stepped r (rest n left r.next)
unfolding step_at rest_step pick read_then
step_read s n left at r e =
    ap
    (λ (none : Bool). pick none (Ok None)
    (read_then stop_at (rule_at s n at) (λ rule. stepped rule (after (rest n (suc left) at) rule))))
    (ne_eqb (suc left) 0 (λ z. omega arith))
    ∙ ap (λ (a : Result SheetRule Refusal). read_then stop_at a (λ rule. stepped rule (after (rest n (suc left) at) rule))) e
    ∙ ap (λ (m : ℕ). stepped r (rest n m r.next)) fewer
  where
    fewer : suc left - 1 ≡ left
    fewer = omega arith

read_more :
    (s : List ℕ) (n left at : ℕ) (r : SheetRule) → rule_at s n at ≡ Ok r
    → read_on (suc left) s (Ok (rest n (suc left) at)) ≡ and_rule r (read_on left s (Ok (rest n left r.next)))
unfolding read_on step_then
read_more s n left at r e =
    ap (λ (step : NextRule). step_then step (λ rule next. and_rule rule (read_on left s next))) (step_read s n left at r e)

-- so many rules that were read, as the reader reads them
read_rules :
    (s : List ℕ) (n left before : ℕ) (done p : Span) → in_turn (rule_step s n) left before done ≡ Ok p
    → WholeReading s (read_on left s (Ok (rest n left done.next))) (rules_from left s n done.next)
unfolding read_on step_at rest_step pick read_then rules_from
read_rules s n zero before done p e = record { in_order = refl; then_end = refl }
read_rules s n (suc left) before done p e =
    let g = rules_next s n left before done p e in
    let m = read_more s n left done.next g.0 g.1 in
    let w = read_rules s n left before (up_to done g.0.next) p g.2 in
    record {
      in_order = ap (λ (t : ReadOut). map (rule_meant s) t.rules) m
          ∙ ap (λ (rs : List Rule). rule_meant s g.0 ∷ rs) w.in_order
          ∙ sym (rules_more s n left done.next g.0 g.1);
      then_end = ap (λ (t : ReadOut). t.last) m ∙ w.then_end;
    }

first_at : (s : List ℕ) (o : Outline) → sheet_read s ≡ Ok o → first_place s ≡ Ok (all_rules o)
unfolding first_place read_then
first_at s o e = ap (λ (c : Result Outline Refusal). read_then stop_at c (λ sheet. Ok (all_rules sheet))) e

read_from : (s : List ℕ) (place : Place) → first_place s ≡ place → read_all s ≡ read_on (left_at place) s place
unfolding read_all
read_from s place e = ap (λ (t : Place). read_on (left_at t) s t) e

-- from the start of an accepted sheet: its rules, in order, then the end
pub read_in_order : (s : List ℕ) (sh : Sheet) → sheet_of s ≡ accepted sh → WholeReading s (read_all s) sh.rules
unfolding rules_at sheet_meant
read_in_order s sh e =
    let o = outlined s sh e in
    let p = parts s o.0 o.1 in
    let k = run_keeps (rule_step s o.0.atoms) p.count.value 0 _ o.0.rules p.fourth in
    let w = read_rules s o.0.atoms p.count.value 0 _ o.0.rules p.fourth in
    let m : read_all s ≡ read_on p.count.value s (Ok (rest o.0.atoms p.count.value p.count.next)) =
    read_from s (Ok (all_rules o.0)) (first_at s o.0 o.1)
    ∙ ap₂ (λ (left at : ℕ). read_on left s (Ok (rest o.0.atoms left at))) k.0 k.1 in
    record {
      in_order = ap (λ (t : ReadOut). map (rule_meant s) t.rules) m
          ∙ w.in_order
          ∙ ap₂ (λ (left at : ℕ). rules_from left s o.0.atoms at) (sym k.0) (sym k.1)
          ∙ ap (λ (t : Sheet). t.rules) o.2;
      then_end = ap (λ (t : ReadOut). t.last) m ∙ w.then_end;
    }

-- of a refused sheet: no rule, and the refusal
pub handed_up : (s : List ℕ) (why : Refusal) → sheet_of s ≡ refused why → read_all s ≡ stopped (stop_at why)
unfolding sheet_of read_then first_place read_on step_at
handed_up s why e = by (sheet_read s) refl e
  where
    by :
        (c : Result Outline Refusal) → sheet_read s ≡ c → read_then {A = Meaning} refused c (λ o. accepted (sheet_meant s o)) ≡ refused why
        → read_all s ≡ stopped (stop_at why)
    by (Ok o) h z = let w : ◌≡◌ {A = ℕ} 0 1 = cc in absurd (omega arith)
    by (Err w) h z =
        let v : w ≡ why = cc in
        read_from s (stop_at why)
        (ap (λ (c : Result Outline Refusal). read_then stop_at c (λ sheet. Ok (all_rules sheet))) h ∙ ap (λ (t : Refusal). stop_at t) v)

-- a reader that moves on reads the same: after a rule it stands at the place that came with it
same_reading : (more : ℕ) (r : Reader) → read_by more r ≡ read_on more r.sheet.now r.place
unfolding read_by read_on step_then place_after
same_reading zero r = refl
same_reading (suc more) r = by (next_of r) (λ next. same_reading more (moved_to r next))
  where
    by :
        (step : NextRule) → ((next : Place) → read_by more (moved_to r next) ≡ read_on more r.sheet.now next)
        → step_then step (λ rule next. and_rule rule (read_by more (moved_to r (place_after step r.place))))
        ≡ step_then step (λ rule next. and_rule rule (read_on more r.sheet.now next))
    by (Ok (Some step)) same = ap (λ (t : ReadOut). and_rule step.rule t) (same step.place)
    by (Ok None) same = refl
    by (Err why) same = refl

pub by_reader : (sheet : Bor (List ℕ)) → read_through sheet ≡ read_all sheet.now
unfolding read_through read_all
by_reader sheet = same_reading (left_at (first_place sheet.now)) (start_of sheet)
