-- Every refusal of a sheet has one of the refusals' numbers and a place within the limit of bytes: each reader starts where the one before it ended,
-- so within the bytes, and refuses within them; and a sheet that is too long is refused at the limit.
use Prim.Native.Nat.{ℕ, ◌+◌, ◌≤◌}
use mathlib.Core.Path.{◌≡◌, refl, ◌∙◌, ap, subst}
use mathlib.Core.Bool.{Bool, true, false}
use mathlib.Core.List.{List}
use native.Mathlib.Omega.{arith}
use lib.ListN.{length}
use lib.Dec.{ltb, eqb}
use borrow.Author.Tests.{ltb-false}
use Rattle.std.specs.Prelude.{⊤, Result, Ok, Err}
use Rattle.rules.specs.Limits.{atoms_most, rules_most, bytes_most, weight_most}
use Rattle.rules.specs.Rule.{checked_kind}
use Rattle.rules.specs.Number.{checked_atom}
use Rattle.rules.specs.Stable.{weight_sum}
use Rattle.rules.specs.declared.kind.Kind.{Kind}
use Rattle.rules.specs.declared.kind.Kind.TheVariants.{Basic as basic, Constraint as constraint, Choice as choice, Weight as weight}
use Rattle.rules.specs.declared.Atom.{Atom}
use Rattle.numbers.specs.Answer.{read_then}
use Rattle.numbers.specs.declared.reason.Reason.TheVariants.{Edition, UnknownKind, NoAtom, BytesLeft, TooLong, BoundTooHigh}
use Rattle.numbers.specs.declared.Refusal.{Refusal}
use Rattle.numbers.specs.declared.Span.{Span}
use Rattle.numbers.proofs.Places.{Placed, placed, Tame, gets, refuses, TameRead, pick_so, then_tame, some_tame, number_tame, within_tame, run_tame, list_tame}
use Rattle.numbers.proofs.Answer.{not_ok, same_ok}
use Rattle.sheet.specs.Body.{weight_at, weights_at, weights_due, need_for, weighed_at, body_at, unless_above, unless_dead}
use Rattle.sheet.specs.RuleMeaning.{rule_meant}
use Rattle.sheet.specs.Rule.{head_then, basic_at, bounded, bounded_at, choice_at, kind_at, rule_at, rule_step, rules_at}
use Rattle.sheet.specs.Sheet.{edition_at, tail_at, rest_at, whole_at, sheet_read}
use Rattle.sheet.specs.Meaning.{accepted, refused, sheet_meant, sheet_of}
use Rattle.sheet.specs.declared.SheetKind.{SheetKind}
use Rattle.sheet.specs.declared.SheetKind.TheVariants.{Basic, Choice}
use Rattle.sheet.specs.declared.SheetRule.{SheetRule}
use Rattle.sheet.specs.declared.Outline.{Outline}

-- a rule that ends within the bytes, or a refusal within them
abbrev TameRule : List ℕ → Result SheetRule Refusal → Type 0
TameRule s a = Tame (length s) (λ (r : SheetRule). r.next ≤ length s) a

-- any refusal is at a place up to the last
abbrev TameSheet : ℕ → Result Outline Refusal → Type 0
TameSheet last a = Tame last (λ (o : Outline). ⊤) a

module _ (s : List ℕ) where
  weights_tame : (count at : ℕ) → at ≤ length s → TameRead s (weights_at s count at)
  unfolding weights_at weight_at
  weights_tame count at h = run_tame s (weight_at s) (λ before at l. within_tame s at l 0 weight_most) count 0 _ h

  weighed_tame :
      (kind : SheetKind) (need : ℕ) (positive negated : Span) → negated.next ≤ length s
      → TameRule s (weighed_at s kind need positive negated)
  unfolding weighed_at
  weighed_tame kind need positive negated h =
      then_tame (weights_tame (weights_due kind positive.value) negated.next h)
      (λ above k. then_tame (weights_tame (weights_due kind negated.value) above.next k)
      (λ below l. gets _ l))

  body_tame : (n : ℕ) (kind : SheetKind) (at : ℕ) → at ≤ length s → TameRule s (body_at s n kind at)
  unfolding body_at
  body_tame n kind at h =
      then_tame (list_tame s 0 n at h)
      (λ positive k. then_tame (list_tame s 0 n positive.next k)
      (λ negated l. weighed_tame kind (need_for kind (positive.value + negated.value)) positive negated l))

  dead_tame : (bound : ℕ) → bound ≤ length s → (a : Result SheetRule Refusal) → TameRule s a → TameRule s (unless_dead s bound a)
  unfolding unless_dead unless_above
  dead_tame bound h a tame =
      then_tame tame
      (λ r l. pick_so (TameRule s) (ltb (weight_sum (rule_meant s r)) r.need) _ _ (λ b. refuses _ (placed BoundTooHigh bound h)) (λ b. gets r l))

  module _ (n at : ℕ) (h : at ≤ length s) where
    head_tame :
        (next : Atom → ℕ → Result SheetRule Refusal) → ((head : Atom) (place : ℕ) → place ≤ length s → TameRule s (next head place))
        → TameRule s (head_then s n at next)
    unfolding head_then
    head_tame next tame =
        then_tame (number_tame s at h)
        (λ number k. some_tame (checked_atom n number.value) (placed NoAtom at h)
        (λ head. tame head number.next k))

    basic_tame : TameRule s (basic_at s n at)
    unfolding basic_at
    basic_tame = head_tame _ (λ head place l. body_tame n (Basic head) place l)

    bounded_tame : (weighs : Bool) → TameRule s (bounded_at s n weighs at)
    unfolding bounded_at
    bounded_tame weighs =
        head_tame _
        (λ head place l. then_tame (number_tame s place l)
        (λ bound k. dead_tame place l _ (body_tame n (bounded weighs head bound.value) bound.next k)))

    choice_tame : TameRule s (choice_at s n at)
    unfolding choice_at
    choice_tame =
        then_tame (list_tame s 1 n at h)
        (λ heads k. body_tame n (Choice heads) heads.next k)

  kind_tame : (n : ℕ) (kind : Kind) (at : ℕ) → at ≤ length s → TameRule s (kind_at s n kind at)
  unfolding kind_at
  kind_tame n basic at h = basic_tame n at h
  kind_tame n constraint at h = bounded_tame n at h false
  kind_tame n choice at h = choice_tame n at h
  kind_tame n weight at h = bounded_tame n at h true

  rule_tame : (n at : ℕ) → at ≤ length s → TameRule s (rule_at s n at)
  unfolding rule_at
  rule_tame n at h =
      then_tame (number_tame s at h)
      (λ number k. some_tame (checked_kind number.value) (placed UnknownKind at h)
      (λ kind. kind_tame n kind number.next k))

  -- a rule that was read ends within the bytes
  pub rule_within : (n at : ℕ) → at ≤ length s → (r : SheetRule) → rule_at s n at ≡ Ok r → r.next ≤ length s
  rule_within n at h r e = by (rule_at s n at) (rule_tame n at h) e
    where
      by : (a : Result SheetRule Refusal) → TameRule s a → a ≡ Ok r → r.next ≤ length s
      by _ (gets t l) z = subst (λ (u : SheetRule). u.next ≤ length s) (same_ok z) l
      by _ (refuses why w) z = absurd (not_ok why z)

  step_tame : (n before at : ℕ) → at ≤ length s → TameRead s (rule_step s n before at)
  unfolding rule_step
  step_tame n before at h = then_tame (rule_tame n at h) (λ rule l. gets _ l)

  rules_tame : (n count at : ℕ) → at ≤ length s → TameRead s (rules_at s n count at)
  unfolding rules_at
  rules_tame n count at h = run_tame s (rule_step s n) (step_tame n) count 0 _ h

  edition_tame : TameRead s (edition_at s)
  unfolding edition_at
  edition_tame =
      then_tame (number_tame s 0 (omega arith))
      (λ edition k. pick_so (TameRead s) (eqb edition.value 1) _ _ (λ b. gets edition k)
      (λ b. refuses _ (placed Edition 0 (omega arith))))

  tail_tame : (n : ℕ) (rules : Span) → rules.next ≤ length s → TameSheet (length s) (tail_at s n rules)
  unfolding tail_at
  tail_tame n rules h =
      then_tame (list_tame s 0 n rules.next h)
      (λ ins k. then_tame (list_tame s 0 n ins.next k)
      (λ outs l. pick_so (TameSheet (length s)) (ltb outs.next (length s)) _ _
      (λ b. refuses _ (placed BytesLeft outs.next l))
      (λ b. gets _ tt)))

  rest_tame : (n at : ℕ) → at ≤ length s → TameSheet (length s) (rest_at s n at)
  unfolding rest_at
  rest_tame n at h =
      then_tame (within_tame s at h 0 rules_most)
      (λ count k. then_tame (rules_tame n count.value count.next k)
      (λ rules l. tail_tame n rules l))

  whole_tame : TameSheet (length s) (whole_at s)
  unfolding whole_at
  whole_tame =
      then_tame edition_tame
      (λ edition k. then_tame (within_tame s edition.next k 0 atoms_most)
      (λ atoms l. rest_tame atoms.value atoms.next l))

  -- a limit above the length is one too
  looser : (c : Result Outline Refusal) → length s ≤ bytes_most → TameSheet (length s) c → TameSheet bytes_most c
  looser _ h (gets o tt) = gets o tt
  looser _ h (refuses why w) = refuses why (record { number = w.number; place = omega (arith, w.place) })

  check_tame : TameSheet bytes_most (sheet_read s)
  unfolding sheet_read
  check_tame =
      pick_so (TameSheet bytes_most) (ltb bytes_most (length s)) _ _
      (λ b. refuses _ (placed TooLong bytes_most (omega arith)))
      (λ b. looser (whole_at s) (ltb-false bytes_most (length s) b) whole_tame)

refusal_placed : {last : ℕ} (why : Refusal) → TameSheet last (Err why) → Placed last why
refusal_placed _ (refuses why w) = w

-- a sheet is refused by one of the refusals' numbers, at a place up to the limit of bytes
pub refused_small : (s : List ℕ) (why : Refusal) → sheet_read s ≡ Err why → Placed bytes_most why
refused_small s why e = refusal_placed why (subst (λ (c : Result Outline Refusal). TameSheet bytes_most c) e (check_tame s))

-- and so is a meaning
pub meaning_small : (s : List ℕ) (why : Refusal) → sheet_of s ≡ refused why → Placed bytes_most why
unfolding sheet_of read_then
meaning_small s why e = by (sheet_read s) refl e
  where
    by : (c : Result Outline Refusal) → sheet_read s ≡ c → read_then refused c (λ o. accepted (sheet_meant s o)) ≡ refused why → Placed bytes_most why
    by (Ok o) h z = let w : ◌≡◌ {A = ℕ} 0 1 = cc in absurd (omega arith)
    by (Err because) h z =
        let same : because ≡ why = cc in
        refused_small s why (h ∙ ap Err same)
