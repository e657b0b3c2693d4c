-- "A rule is one of four kinds, each with its own head part:
-- 1 basic: head, body
-- 2 constraint: head, bound, body
-- 3 choice: head list (count 1 to n, strictly increasing), body
-- 5 weight: head, bound, body, then one weight (0 to 1,000,000) for each positive and then for each negative literal, in body order.
-- A body is a list of positive atoms and then a list of negated atoms. A bound is any number."
-- Refusal 5: "kind not 1, 2, 3, 5", at its first byte.
use Rattle.std.specs.Prelude.{ℕ, Bool, true, false, List, Result, Ok, Err, ok_or}
use Rattle.rules.specs.Rule.{checked_kind}
use Rattle.rules.specs.Number.{checked_atom}
use Rattle.rules.specs.declared.kind.Kind.{Kind}
use Rattle.rules.specs.declared.kind.Kind.TheVariants.{Basic as basic, Constraint as constraint, Choice as choice, Weight as weight}
use Rattle.rules.specs.declared.Atom.{Atom}
use Rattle.numbers.specs.Answer.{refusal, span, read_then}
use Rattle.numbers.specs.Number.{number_at}
use Rattle.numbers.specs.Lists.{in_turn, list_at}
use Rattle.numbers.specs.declared.reason.Reason.TheVariants.{UnknownKind, NoAtom}
use Rattle.numbers.specs.declared.Refusal.{Refusal}
use Rattle.numbers.specs.declared.Span.{Span}
use Rattle.sheet.specs.Body.{body_at, unless_dead}
use Rattle.sheet.specs.declared.SheetKind.{SheetKind}
use Rattle.sheet.specs.declared.SheetKind.TheVariants.{Basic, Constraint, Choice, Weight}
use Rattle.sheet.specs.declared.SheetRule.{SheetRule}

-- the head at a place, an atom, and what comes after it
unfoldable pub head_then : List ℕ → ℕ → ℕ → (Atom → ℕ → Result SheetRule Refusal) → Result SheetRule Refusal
head_then s n at next =
    read_then Err (number_at s at)
    (λ number. read_then Err (ok_or (checked_atom n number.value) (refusal NoAtom at)) (λ head. next head number.next))

unfoldable pub basic_at : List ℕ → ℕ → ℕ → Result SheetRule Refusal
basic_at s n at = head_then s n at (λ head next. body_at s n (Basic head) next)

-- a constraint and a weight rule have the same head part
abbrev pub bounded : Bool → Atom → ℕ → SheetKind
bounded true head bound = Weight head bound
bounded false head bound = Constraint head bound

unfoldable pub bounded_at : List ℕ → ℕ → Bool → ℕ → Result SheetRule Refusal
bounded_at s n weighs at =
    head_then s n at
    (λ head next. read_then Err (number_at s next)
    (λ bound. unless_dead s next (body_at s n (bounded weighs head bound.value) bound.next)))

unfoldable pub choice_at : List ℕ → ℕ → ℕ → Result SheetRule Refusal
choice_at s n at = read_then Err (list_at s 1 n at) (λ heads. body_at s n (Choice heads) heads.next)

-- the rule of this kind whose head part is at a place
unfoldable pub kind_at : List ℕ → ℕ → Kind → ℕ → Result SheetRule Refusal
kind_at s n basic at = basic_at s n at
kind_at s n constraint at = bounded_at s n false at
kind_at s n choice at = choice_at s n at
kind_at s n weight at = bounded_at s n true at

unfoldable pub rule_at : List ℕ → ℕ → ℕ → Result SheetRule Refusal
rule_at s n at =
    read_then Err (number_at s at)
    (λ number. read_then Err (ok_or (checked_kind number.value) (refusal UnknownKind at)) (λ kind. kind_at s n kind number.next))

-- a rule, as one more of a run of rules
unfoldable pub rule_step : List ℕ → ℕ → ℕ → ℕ → Result Span Refusal
rule_step s n before at = read_then Err (rule_at s n at) (λ rule. Ok (span before at rule.next))

unfoldable pub rules_at : List ℕ → ℕ → ℕ → ℕ → Result Span Refusal
rules_at s n count at = in_turn (rule_step s n) count 0 (span count at at)
