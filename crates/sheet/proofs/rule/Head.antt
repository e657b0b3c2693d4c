-- A rule is the body after its head part: where the head part is read, the body comes next, and a refusal is handed up, in each of the
-- four kinds alike. A kind without a bound is never refused by 16.
use Prim.Native.Nat.{ℕ}
use mathlib.Core.Path.{◌≡◌, refl, sym, ap, ◌∙◌}
use mathlib.Core.List.{List}
use Rattle.std.specs.Prelude.{true, false, ok_or, Result, Ok, Err}
use Rattle.rules.specs.Rule.{checked_kind}
use Rattle.rules.specs.Number.{checked_atom}
use Rattle.rules.specs.declared.kind.Kind.{Kind}
use Rattle.rules.specs.declared.kind.Kind.TheVariants.{Basic as basic, Constraint as constraint, Choice as choice, Weight as weight}
use Rattle.numbers.specs.Answer.{refusal, read_then}
use Rattle.numbers.specs.Number.{number_at}
use Rattle.numbers.specs.Lists.{list_at}
use Rattle.numbers.specs.declared.reason.Reason.TheVariants.{UnknownKind, NoAtom}
use Rattle.numbers.specs.declared.Refusal.{Refusal}
use Rattle.sheet.specs.Body.{body_at, unless_dead}
use Rattle.sheet.specs.Rule.{head_then, basic_at, bounded_at, choice_at, kind_at, rule_at}
use Rattle.sheet.specs.Inner.Head.{choice_head, bound_head, after_single, single_head, kind_head, head_at, body_after}
use Rattle.sheet.specs.declared.SheetKind.TheVariants.{Basic, Choice}
use Rattle.sheet.specs.declared.HeadPart.{HeadPart}
use Rattle.sheet.specs.declared.SheetRule.{SheetRule}
use Rattle.sheet.proofs.body.Dead.{never_dead}

module _ (s : List ℕ) (n : ℕ) where
  -- the body comes after what is read
  after_read :
      {V : Type 0} (a : Result V Refusal) (f : V → Result HeadPart Refusal) (g : V → Result SheetRule Refusal)
      → ((v : V) → body_after s n (f v) ≡ g v) → body_after s n (read_then Err a f) ≡ read_then Err a g
  unfolding read_then body_after
  after_read (Ok v) f g e = e v
  after_read (Err why) f g e = refl

  module _ (at : ℕ) where
    basic_after : body_after s n (single_head s n basic at) ≡ basic_at s n at
    unfolding single_head after_single basic_at head_then body_after read_then
    basic_after = after_read (number_at s at) _ _ (λ number. after_read (ok_or (checked_atom n number.value) (refusal NoAtom at)) _ _
        (λ head. never_dead s n (Basic head) number.next number.next refl (λ length. refl)))

    constraint_after : body_after s n (single_head s n constraint at) ≡ bounded_at s n false at
    unfolding single_head after_single bound_head bounded_at head_then body_after read_then
    constraint_after = after_read (number_at s at) _ _ (λ number. after_read (ok_or (checked_atom n number.value) (refusal NoAtom at)) _ _
        (λ head. after_read (number_at s number.next) _ _ (λ bound. refl)))

    weight_after : body_after s n (single_head s n weight at) ≡ bounded_at s n true at
    unfolding single_head after_single bound_head bounded_at head_then body_after read_then
    weight_after = after_read (number_at s at) _ _ (λ number. after_read (ok_or (checked_atom n number.value) (refusal NoAtom at)) _ _
        (λ head. after_read (number_at s number.next) _ _ (λ bound. refl)))

    choice_after : body_after s n (choice_head s n at) ≡ choice_at s n at
    unfolding choice_head choice_at body_after read_then
    choice_after = after_read (list_at s 1 n at) _ _ (λ heads. never_dead s n (Choice heads) heads.next heads.next refl (λ length. refl))

    kind_after : (kind : Kind) → body_after s n (kind_head s n kind at) ≡ kind_at s n kind at
    unfolding kind_head kind_at
    kind_after basic = basic_after
    kind_after constraint = constraint_after
    kind_after choice = choice_after
    kind_after weight = weight_after

  module _ (at : ℕ) where
    pub rule_after : body_after s n (head_at s n at) ≡ rule_at s n at
    unfolding head_at rule_at
    rule_after = after_read (number_at s at) _ _ (λ number. after_read (ok_or (checked_kind number.value) (refusal UnknownKind at)) _ _ (kind_after number.next))

    -- the law as it is used: x is the head part that was answered, and r the rule
    module _ (r : Result SheetRule Refusal) (x : Result HeadPart Refusal) (h : x ≡ head_at s n at) where
      pub after_head : (head : HeadPart) → x ≡ Ok head → r ≡ unless_dead s head.bound (body_at s n head.kind head.next) → r ≡ rule_at s n at
      unfolding body_after read_then
      after_head head g e = e ∙ ap (λ (t : Result HeadPart Refusal). body_after s n t) (sym g ∙ h) ∙ rule_after

      pub no_head : (why : Refusal) → x ≡ Err why → r ≡ Err why → r ≡ rule_at s n at
      unfolding body_after read_then
      no_head why g e = e ∙ ap (λ (t : Result HeadPart Refusal). body_after s n t) (sym g ∙ h) ∙ rule_after
