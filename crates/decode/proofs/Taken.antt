-- What was read is what is taken: a number that was read is the number taken there, and so it is with the lists, the bodies and the rules
-- that are made up of numbers.
use Prim.Native.Nat.{ℕ, zero, suc, ◌+◌, ◌-◌, ◌≤◌, ◌<◌}
use mathlib.Core.Path.{◌≡◌, refl, sym, ◌∙◌, ap, ap₂, subst}
use mathlib.Core.Bool.{Bool, true, false}
use mathlib.Core.List.{List, [], ◌∷◌}
use native.Mathlib.Omega.{arith}
use lib.ListN.{length, length-map}
use Rattle.rules.specs.Sum.{pick}
use Rattle.rules.specs.Limits.{weight_most, number_most}
use Rattle.rules.specs.Number.{checked_atom}
use Rattle.rules.specs.Rule.{Weighted, kind_number, kind_of, one, ones, choice_rule}
use Rattle.rules.specs.declared.kind.Kind.{Kind}
use Rattle.rules.specs.declared.kind.Kind.TheVariants.{Basic as basic, Constraint as constraint, Choice as choice, Weight as weight}
use Rattle.rules.specs.declared.Atom.{Atom}
use Rattle.rules.proofs.Inside.{atom_is}
use Rattle.rules.proofs.Same.{rule_made}
use Rattle.numbers.specs.Answer.{refusal, span}
use Rattle.numbers.specs.Number.{number_at, taken_at}
use Rattle.numbers.specs.Lists.{atom_at, in_turn, up_to, list_at, numbers_from, numbers_of}
use Rattle.numbers.specs.declared.Span.{Span}
use Rattle.numbers.specs.declared.Refusal.{Refusal}
use Rattle.numbers.specs.declared.reason.Reason.TheVariants.{NoAtom}
use Rattle.std.specs.Prelude.{ok_or, Result, Ok, Err}
use Rattle.numbers.proofs.Answer.{from_read, ok_some, not_ok, same_ok, one_left}
use Rattle.numbers.proofs.number.Taken.{taken_read, taken_most}
use Rattle.numbers.proofs.number.Most.{limited}
use Rattle.numbers.proofs.lists.Numbers.{numbers_count}
use Rattle.numbers.proofs.lists.Most.{run_keeps, listed}
use Rattle.numbers.proofs.lists.Encoded.{atom_sound}
use Rattle.sheet.specs.Body.{weight_at, weights_at, weights_due, need_for, weighed_at, body_at}
use Rattle.sheet.specs.Rule.{bounded, head_then, basic_at, bounded_at, choice_at, kind_at, rule_at}
use Rattle.sheet.specs.RuleMeaning.{paired, paired_in, rule_by, rule_meant}
use Rattle.sheet.specs.declared.SheetKind.{SheetKind}
use Rattle.sheet.specs.declared.SheetKind.TheVariants.{Basic, Constraint, Choice, Weight}
use Rattle.sheet.specs.declared.Literals.{Literals}
use Rattle.sheet.specs.declared.SheetRule.{SheetRule}
use Rattle.sheet.proofs.body.Ran.{body_ran}
use Rattle.sheet.proofs.body.Dead.{from_dead}
use Rattle.sheet.proofs.rule.Ran.{cases}
use Rattle.decode.specs.Inner.Taken.{numbers_past, list_taken, list_past, literals_taken, literals_past, Body, body_of, body_taken, heads_taken, heads_past, bound_taken, need_taken, rest_taken, rule_of, kind_taken, rule_bound, rule_taken, rule_past}

-- a kind is that of its number
pub kind_written : (k : Kind) → kind_of (kind_number k) ≡ k
unfolding kind_of pick
kind_written basic = refl
kind_written constraint = refl
kind_written choice = refl
kind_written weight = refl

-- a body without weights is as long as its lists
plain_length :
    {ps ns : List Weighted} (xs ys : List ℕ) → ps ≡ ones xs → ns ≡ ones ys → length ps + length ns ≡ length xs + length ys
plain_length xs ys e f = ap₂ (λ (ps ns : List Weighted). length ps + length ns) e f ∙ ap₂ ◌+◌ (length-map xs one) (length-map ys one)

module _ (s : List ℕ) where
  -- a number that was taken is a sheet's
  pub number_fits : (at : ℕ) {p : Span} → p ≡ taken_at s at → p.value ≤ number_most
  number_fits at e = subst (λ (p : Span). p.value ≤ number_most) (sym e) (taken_most s at)

  -- the place after the numbers that are left, of count, when k were passed
  pub past_over : (count k at : ℕ) → count ≤ k → numbers_past (count - k) s at ≡ at
  unfolding numbers_past
  past_over count k at h = let z : count - k ≡ 0 = omega arith in ap (λ (m : ℕ). numbers_past m s at) z

  pub past_turn : (count k at : ℕ) → k < count → {p : Span} → p ≡ taken_at s at → numbers_past (count - (k + 1)) s p.next ≡ numbers_past (count - k) s at
  unfolding numbers_past
  past_turn count k at h e =
      ap (λ (q : Span). numbers_past (count - (k + 1)) s q.next) e ∙ sym (ap (λ (m : ℕ). numbers_past m s at) (one_left count k h))

  run_past :
      (step : ℕ → ℕ → Result Span Refusal) → ((before at : ℕ) (one : Span) → step before at ≡ Ok one → number_at s at ≡ Ok one)
      → (left before : ℕ) (done p : Span) → in_turn step left before done ≡ Ok p → numbers_past left s done.next ≡ p.next
  unfolding in_turn numbers_past
  run_past step sound zero before done p e = ap (λ (q : Span). q.next) (same_ok e)
  run_past step sound (suc left) before done p e =
      let g = from_read Err _ (step before done.next) not_ok e in
      ap (λ (q : Span). numbers_past left s q.next)
      (taken_read s done.next g.0 (sound before done.next g.0 g.1))
      ∙ run_past step sound left g.0.value (up_to done g.0.next) p g.2

  pub list_taken_law : (least n at : ℕ) (p : Span) → list_at s least n at ≡ Ok p → (list_taken s at ≡ numbers_of s p) × (list_past s at ≡ p.next)
  unfolding list_taken list_past
  list_taken_law least n at p e =
      let l = listed s least n at p e in
      let t = taken_read s at l.count l.counted.number in (
        ap (λ (q : Span). numbers_from q.value s q.next) t
            ∙ ap₂ (λ (k f : ℕ). numbers_from k s f) (sym l.value) (sym l.first),
        ap (λ (q : Span). numbers_past q.value s q.next) t
            ∙ run_past (atom_at s n) (λ before at one e. (atom_sound s n before at one e).0) l.count.value 0 _ p l.ran,
      )

  weights_taken : (count at : ℕ) (p : Span) → weights_at s count at ≡ Ok p → (numbers_from count s at ≡ numbers_of s p) × (numbers_past count s at ≡ p.next)
  unfolding weights_at weight_at
  weights_taken count at p e =
      let k = run_keeps (weight_at s) count 0 (span count at at) p e in (
        ap₂ (λ (n f : ℕ). numbers_from n s f) (sym k.0) (sym k.1),
        run_past (weight_at s) (λ before at one e. (limited s 0 weight_most at one e).number) count 0 (span count at at) p e,
      )

  -- the literals of one sign, as they were read
  abbrev literals_read : Bool → Literals → List Weighted
  literals_read true l = paired_in s l
  literals_read false l = ones (numbers_of s l.atoms)

  -- the body that is taken at a place is the one that was read
  record BodyIs (weighs : Bool) (at : ℕ) (r : SheetRule) : Type 0 where
    pos : (body_taken s weighs at).pos ≡ literals_read weighs r.positive
    neg : (body_taken s weighs at).neg ≡ literals_read weighs r.negated
    next : (body_taken s weighs at).next ≡ r.next

  module _ (n at : ℕ) (p q : Span) (hp : list_at s 0 n at ≡ Ok p) (hq : list_at s 0 n p.next ≡ Ok q) where
    lists : (weighs : Bool) → body_taken s weighs at ≡ body_of s weighs (numbers_of s p) (numbers_of s q) q.next
    unfolding body_taken
    lists weighs =
        let x = list_taken_law 0 n at p hp in
        let y = list_taken_law 0 n p.next q hq in
        ap (λ (xs : List ℕ). body_of s weighs xs (list_taken s (list_past s at)) (list_past s (list_past s at))) x.0
        ∙ ap₂ (body_of s weighs (numbers_of s p)) (ap (list_taken s) x.1 ∙ y.0) (ap (list_past s) x.1 ∙ y.1)

    module _ (kind : SheetKind) (a b : Span) where
      abbrev made : SheetRule
      made =
          record {
            kind = kind;
            need = need_for kind (p.value + q.value);
            positive = record { atoms = p; weights = a };
            negated = record { atoms = q; weights = b };
            next = b.next;
          }

      plain : weights_at s 0 q.next ≡ Ok a → weights_at s 0 a.next ≡ Ok b → BodyIs false at made
      unfolding literals_taken literals_past pick numbers_past
      plain ha hb =
          let e = lists false in
          record {
            pos = ap (λ (d : Body). d.pos) e;
            neg = ap (λ (d : Body). d.neg) e;
            next =
                ap (λ (d : Body). d.next) e ∙ (weights_taken 0 q.next a ha).1 ∙ (weights_taken 0 a.next b hb).1;
          }

      weighed : weights_at s p.value q.next ≡ Ok a → weights_at s q.value a.next ≡ Ok b → BodyIs true at made
      unfolding literals_taken literals_past pick
      weighed ha hb =
          let e = lists true in
          let x : length (numbers_of s p) ≡ p.value = numbers_count s p.value p.first in
          let y : length (numbers_of s q) ≡ q.value = numbers_count s q.value q.first in
          let v = weights_taken p.value q.next a ha in
          let w = weights_taken q.value a.next b hb in
          let past : numbers_past (length (numbers_of s p)) s q.next ≡ a.next =
          ap (λ (k : ℕ). numbers_past k s q.next) x ∙ v.1 in
          record {
            pos = ap (λ (d : Body). d.pos) e ∙ ap (λ (k : ℕ). paired (numbers_of s p) (numbers_from k s q.next)) x ∙ ap (paired (numbers_of s p)) v.0;
            neg =
                ap (λ (d : Body). d.neg) e
                ∙ ap₂ (λ (k m : ℕ). paired (numbers_of s q) (numbers_from k s m)) y past
                ∙ ap (paired (numbers_of s q)) w.0;
            next = ap (λ (d : Body). d.next) e ∙ ap₂ (λ (k m : ℕ). numbers_past k s m) y past ∙ w.1;
          }

  body_taken_law :
      (n at : ℕ) (kind : SheetKind) (weighs : Bool) (r : SheetRule) → ((count : ℕ) → weights_due kind count ≡ pick weighs count 0)
      → body_at s n kind at ≡ Ok r → BodyIs weighs at r
  unfolding body_at weighed_at pick
  body_taken_law n at kind weighs r due e =
      let p = from_read Err _ (list_at s 0 n at) not_ok e in
      let q = from_read Err _ (list_at s 0 n p.0.next) not_ok p.2 in
      let a = from_read Err _ (weights_at s (weights_due kind p.0.value) q.0.next) not_ok q.2 in
      let b = from_read Err _ (weights_at s (weights_due kind q.0.value) a.0.next) not_ok a.2 in
      subst (λ (t : SheetRule). BodyIs weighs at t) (same_ok b.2)
      (by weighs p.0 q.0 a.0 b.0 p.1 q.1
      (sym (ap (λ (k : ℕ). weights_at s k q.0.next) (due p.0.value)) ∙ a.1)
      (sym (ap (λ (k : ℕ). weights_at s k a.0.next) (due q.0.value)) ∙ b.1))
    where
      by :
          (weighs : Bool) (p q a b : Span) (hp : list_at s 0 n at ≡ Ok p) (hq : list_at s 0 n p.next ≡ Ok q)
          → weights_at s (pick weighs p.value 0) q.next ≡ Ok a → weights_at s (pick weighs q.value 0) a.next ≡ Ok b
          → BodyIs weighs at (made n at p q hp hq kind a b)
      by true p q a b hp hq ha hb = weighed n at p q hp hq kind a b ha hb
      by false p q a b hp hq ha hb = plain n at p q hp hq kind a b ha hb

  -- a head that was read is the number that is taken
  head_taken :
      (n at : ℕ) (next : Atom → ℕ → Result SheetRule Refusal) (r : SheetRule) → head_then s n at next ≡ Ok r
      → (head : Atom) × ((taken_at s at).value ≡ head.number) × (next head (taken_at s at).next ≡ Ok r)
  unfolding head_then
  head_taken n at next r e =
      let g = from_read Err _ (number_at s at) not_ok e in
      let a = from_read Err _ (ok_or (checked_atom n g.0.value) (refusal NoAtom at)) not_ok g.2 in
      let t = taken_read s at g.0 g.1 in (
        a.0,
        ap (λ (q : Span). q.value) t ∙ ap (λ (x : Atom). x.number) (atom_is n g.0.value a.0 (ok_some _ _ a.1)).1,
        ap (λ (q : Span). next a.0 q.next) t ∙ a.2,
      )

  -- the rule of this kind whose head part is at a place, as it is taken and as it was read
  record KindIs (kind : Kind) (at : ℕ) (r : SheetRule) : Type 0 where
    rule : rule_of s kind (heads_taken s kind at) (bound_taken s kind (heads_past s kind at)) ≡ rule_meant s r
    next : (rest_taken s kind (bound_taken s kind (heads_past s kind at))).next ≡ r.next

  -- a constraint and a weight rule have the same head part
  abbrev bounded_kind : Bool → Kind
  bounded_kind true = weight
  bounded_kind false = constraint

  module _ (n at : ℕ) (r : SheetRule) where
    basic_is : basic_at s n at ≡ Ok r → KindIs basic at r
    unfolding basic_at heads_taken heads_past bound_taken need_taken pick rule_meant
    basic_is e =
        let h = head_taken n at _ r e in
        let k = (body_ran s n (Basic h.0) (taken_at s at).next r h.2).kind_is in
        let b = body_taken_law n (taken_at s at).next (Basic h.0) false r (λ count. refl) h.2 in
        record {
          rule =
              rule_made refl (ap (λ (x : ℕ). x ∷ []) h.1) (plain_length (numbers_of s r.positive.atoms) (numbers_of s r.negated.atoms) b.pos b.neg) b.pos b.neg
              ∙ sym (ap (λ (d : SheetKind). rule_by s d r.positive r.negated) k);
          next = b.next;
        }

    choice_is : choice_at s n at ≡ Ok r → KindIs choice at r
    unfolding choice_at heads_taken heads_past bound_taken need_taken pick rule_meant
    choice_is e =
        let g = from_read Err _ (list_at s 1 n at) not_ok e in
        let l = list_taken_law 1 n at g.0 g.1 in
        let z : body_at s n (Choice g.0) (list_past s at) ≡ Ok r = ap (body_at s n (Choice g.0)) l.1 ∙ g.2 in
        let k = (body_ran s n (Choice g.0) (list_past s at) r z).kind_is in
        let b = body_taken_law n (list_past s at) (Choice g.0) false r (λ count. refl) z in
        record {
          rule =
              rule_made refl l.0 (plain_length (numbers_of s r.positive.atoms) (numbers_of s r.negated.atoms) b.pos b.neg) b.pos b.neg
              ∙ sym (ap (λ (d : SheetKind). rule_by s d r.positive r.negated) k);
          next = b.next;
        }

    bounded_is : (weighs : Bool) → bounded_at s n weighs at ≡ Ok r → KindIs (bounded_kind weighs) at r
    unfolding bounded_at heads_taken heads_past bound_taken need_taken pick rule_meant
    bounded_is weighs e =
        let h = head_taken n at _ r e in
        let g = from_read Err _ (number_at s (taken_at s at).next) not_ok h.2 in
        by weighs h.0 h.1 g.0 (taken_read s (taken_at s at).next g.0 g.1)
        (from_dead s (taken_at s at).next _ r g.2).0
      where
        by :
            (weighs : Bool) (head : Atom) → (taken_at s at).value ≡ head.number → (bound : Span) → taken_at s (taken_at s at).next ≡ bound
            → body_at s n (bounded weighs head bound.value) bound.next ≡ Ok r → KindIs (bounded_kind weighs) at r
        by true head f bound t z =
            let y : body_at s n (Weight head bound.value) (taken_at s (taken_at s at).next).next ≡ Ok r =
            ap (λ (q : Span). body_at s n (Weight head bound.value) q.next) t ∙ z in
            let k = (body_ran s n (Weight head bound.value) _ r y).kind_is in
            let b = body_taken_law n _ (Weight head bound.value) true r (λ count. refl) y in
            record {
              rule =
                  rule_made refl (ap (λ (x : ℕ). x ∷ []) f) (ap (λ (q : Span). q.value) t) b.pos b.neg
                  ∙ sym (ap (λ (d : SheetKind). rule_by s d r.positive r.negated) k);
              next = b.next;
            }
        by false head f bound t z =
            let y : body_at s n (Constraint head bound.value) (taken_at s (taken_at s at).next).next ≡ Ok r =
            ap (λ (q : Span). body_at s n (Constraint head bound.value) q.next) t ∙ z in
            let k = (body_ran s n (Constraint head bound.value) _ r y).kind_is in
            let b = body_taken_law n _ (Constraint head bound.value) false r (λ count. refl) y in
            record {
              rule =
                  rule_made refl (ap (λ (x : ℕ). x ∷ []) f) (ap (λ (q : Span). q.value) t) b.pos b.neg
                  ∙ sym (ap (λ (d : SheetKind). rule_by s d r.positive r.negated) k);
              next = b.next;
            }

  kind_is : (n at : ℕ) (r : SheetRule) (kind : Kind) → kind_at s n kind at ≡ Ok r → KindIs kind at r
  unfolding kind_at
  kind_is n at r basic e = basic_is n at r e
  kind_is n at r constraint e = bounded_is n at r false e
  kind_is n at r choice e = choice_is n at r e
  kind_is n at r weight e = bounded_is n at r true e

  -- the rule that is taken at a place is the one that was read
  pub record RuleIs (at : ℕ) (r : SheetRule) : Type 0 where
    pub kind : kind_number (rule_taken s at).kind ≡ (taken_at s at).value
    pub rule : rule_taken s at ≡ rule_meant s r
    pub next : rule_past s at ≡ r.next

  pub rule_taken_law : (n at : ℕ) (r : SheetRule) → rule_at s n at ≡ Ok r → RuleIs at r
  unfolding rule_taken rule_past rule_bound
  rule_taken_law n at r e =
      let g = cases s n at r e in
      let t = taken_read s at g.0 g.1 in
      let kind : kind_of (taken_at s at).value ≡ g.2 = ap (λ (q : Span). kind_of q.value) t ∙ ap kind_of g.3 ∙ kind_written g.2 in
      taken (ap (λ (k : Kind). kind_number k) kind ∙ sym (ap (λ (q : Span). q.value) t ∙ g.3))
      (subst (λ (k : Kind). KindIs k (taken_at s at).next r) (sym kind)
      (subst (λ (p : ℕ). KindIs g.2 p r) (sym (ap (λ (q : Span). q.next) t)) (kind_is n g.0.next r g.2 g.4)))
    where
      taken : kind_number (kind_taken s at) ≡ (taken_at s at).value → KindIs (kind_taken s at) (taken_at s at).next r → RuleIs at r
      taken kind h = record { kind = kind; rule = h.rule; next = h.next }

  -- the compute lists after the rules, as the body of a choice with no heads
  pub record ListsAre (at : ℕ) (ins outs : List ℕ) : Type 0 where
    pub rule : rule_of s choice [] (span 0 at at) ≡ choice_rule [] ins outs

  pub lists_taken :
      (n at : ℕ) (p q : Span) → list_at s 0 n at ≡ Ok p → list_at s 0 n p.next ≡ Ok q → ListsAre at (numbers_of s p) (numbers_of s q)
  unfolding need_taken pick literals_taken
  lists_taken n at p q hp hq =
      let e = lists n at p q hp hq false in
      let pos = ap (λ (d : Body). d.pos) e in
      let neg = ap (λ (d : Body). d.neg) e in
      record { rule = rule_made refl refl (plain_length (numbers_of s p) (numbers_of s q) pos neg) pos neg }
