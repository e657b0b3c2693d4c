-- What is refused by 16, and what is not. A rule that passes has a need of at most the sum of its weights; a rule of a kind without a bound
-- always passes, since its need is the number of its literals, and each weighs 1.
use Prim.Native.Nat.{ℕ, ◌+◌, ◌≤◌}
use mathlib.Core.Path.{◌≡◌, refl, ap, ap₂, subst, ◌∙◌}
use mathlib.Core.Bool.{Bool, true, false, cond}
use mathlib.Core.List.{List}
use native.Mathlib.Omega.{arith}
use lib.ListN.{length}
use lib.Dec.{ltb}
use borrow.Author.Tests.{le-ltb, ltb-false}
use Rattle.std.specs.Prelude.{Result, Ok, Err}
use Rattle.rules.specs.Sum.{pick}
use Rattle.rules.specs.Stable.{weight_sum}
use Rattle.rules.proofs.Dead.{plain_sum}
use Rattle.numbers.specs.Answer.{refusal, read_then}
use Rattle.numbers.specs.Lists.{numbers_of}
use Rattle.numbers.specs.declared.reason.Reason.TheVariants.{BoundTooHigh}
use Rattle.numbers.specs.declared.Refusal.{Refusal}
use Rattle.numbers.specs.declared.Span.{Span}
use Rattle.numbers.proofs.Answer.{got_by, handed_by, from_no, not_ok, same_ok}
use Rattle.numbers.proofs.lists.Numbers.{numbers_count}
use Rattle.sheet.specs.Body.{need_for, body_at, unless_above, unless_dead}
use Rattle.sheet.specs.RuleMeaning.{rule_by, rule_meant}
use Rattle.sheet.specs.Inner.Unweighed.{is_plain}
use Rattle.sheet.specs.declared.SheetKind.{SheetKind}
use Rattle.sheet.specs.declared.SheetKind.TheVariants.{Basic, Constraint, Choice, Weight}
use Rattle.sheet.specs.declared.Literals.{Literals}
use Rattle.sheet.specs.declared.SheetRule.{SheetRule}
use Rattle.sheet.proofs.body.Ran.{body_ran}

pub no_two : false ≡ true → ⊥
no_two e = let z : ◌≡◌ {A = ℕ} 0 1 = ap (λ (b : Bool). cond b 1 0) e in omega arith

-- the need of a rule that was read is at most the sum of its weights
abbrev pub Lives : List ℕ → SheetRule → Type 0
Lives s r = r.need ≤ weight_sum (rule_meant s r)

module _ (s : List ℕ) (bound : ℕ) where
  pub from_dead : (x : Result SheetRule Refusal) (r : SheetRule) → unless_dead s bound x ≡ Ok r → (x ≡ Ok r) × Lives s r
  unfolding unless_dead read_then unless_above
  from_dead (Err why) r e = absurd (not_ok why e)
  from_dead (Ok t) r e =
      let g = from_no (ltb (weight_sum (rule_meant s t)) t.need) _ _ (not_ok _) e in
      (g.1, subst (Lives s) (same_ok g.1) (ltb-false (weight_sum (rule_meant s t)) t.need g.0))

  pub lives_on : (x : Result SheetRule Refusal) (r : SheetRule) → x ≡ Ok r → Lives s r → unless_dead s bound x ≡ Ok r
  unfolding unless_dead read_then unless_above pick
  lives_on x r e l =
      ap (unless_dead s bound) e
      ∙ ap (λ (b : Bool). pick b (Err (refusal BoundTooHigh bound)) (Ok r)) (le-ltb (weight_sum (rule_meant s r)) r.need l)

  all_live : (x : Result SheetRule Refusal) → ((r : SheetRule) → x ≡ Ok r → Lives s r) → unless_dead s bound x ≡ x
  unfolding unless_dead read_then
  all_live (Err why) l = refl
  all_live (Ok r) l = lives_on (Ok r) r refl (l r refl)

  -- the test comes after what is read: a refusal on the way is handed up
  module _ (r : Result SheetRule Refusal) (next : Span → Result SheetRule Refusal) (a x : Result Span Refusal) (h : x ≡ a) where
    pub dead_got : (p : Span) → x ≡ Ok p → r ≡ unless_dead s bound (next p) → r ≡ unless_dead s bound (read_then Err a next)
    dead_got p g e = got_by (unless_dead s bound) r Err next a x h p g e

    pub dead_handed : (why : Refusal) → x ≡ Err why → r ≡ Err why → r ≡ unless_dead s bound (read_then Err a next)
    unfolding unless_dead read_then
    dead_handed why g e = handed_by (unless_dead s bound) r Err next a x h why g e

-- literals without weights weigh 1 each
pub plain_weighs :
    (s : List ℕ) (kind : SheetKind) (positive negated : Literals) → is_plain kind ≡ true
    → weight_sum (rule_by s kind positive negated) ≡ positive.atoms.value + negated.atoms.value
plain_weighs s kind positive negated plain =
    by kind plain
    ∙ ap₂ ◌+◌ (numbers_count s positive.atoms.value positive.atoms.first) (numbers_count s negated.atoms.value negated.atoms.first)
  where
    by :
        (kind : SheetKind) → is_plain kind ≡ true
        → weight_sum (rule_by s kind positive negated) ≡ length (numbers_of s positive.atoms) + length (numbers_of s negated.atoms)
    by (Basic head) h = plain_sum (rule_by s (Basic head) positive negated) (numbers_of s positive.atoms) (numbers_of s negated.atoms) refl refl
    by (Constraint head k) h = plain_sum (rule_by s (Constraint head k) positive negated) (numbers_of s positive.atoms) (numbers_of s negated.atoms) refl refl
    by (Choice heads) h = plain_sum (rule_by s (Choice heads) positive negated) (numbers_of s positive.atoms) (numbers_of s negated.atoms) refl refl
    by (Weight head k) h = absurd (no_two h)

-- a body of a kind without a bound passes
pub never_dead :
    (s : List ℕ) (n : ℕ) (kind : SheetKind) (bound at : ℕ) → is_plain kind ≡ true → ((length : ℕ) → need_for kind length ≡ length)
    → unless_dead s bound (body_at s n kind at) ≡ body_at s n kind at
unfolding rule_meant
never_dead s n kind bound at plain whole = all_live s bound (body_at s n kind at) lives
  where
    lives : (r : SheetRule) → body_at s n kind at ≡ Ok r → Lives s r
    lives r e =
        let b = body_ran s n kind at r e in
        let w = plain_weighs s r.kind r.positive r.negated (ap (λ (k : SheetKind). is_plain k) b.kind_is ∙ plain) in
        omega (arith, w, b.need_is ∙ whole (r.positive.atoms.value + r.negated.atoms.value))
