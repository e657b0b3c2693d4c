-- "A rule is one of four kinds, each with its own head part": the head part as it is read, by itself, and then the body after it.
use Rattle.std.specs.Prelude.{ℕ, Bool, true, false, List, Result, Ok, Err, ok_or}
use Rattle.rules.specs.Rule.{checked_kind}
use Rattle.rules.specs.Number.{checked_atom}
use Rattle.rules.specs.declared.kind.Kind.{Kind}
use Rattle.rules.specs.declared.kind.Kind.TheVariants.{Basic as basic, Constraint as constraint, Choice as choice, Weight as weight}
use Rattle.rules.specs.declared.Atom.{Atom}
use Rattle.numbers.specs.Answer.{refusal, read_then}
use Rattle.numbers.specs.Number.{number_at}
use Rattle.numbers.specs.Lists.{list_at}
use Rattle.numbers.specs.declared.reason.Reason.TheVariants.{UnknownKind, NoAtom}
use Rattle.numbers.specs.declared.Refusal.{Refusal}
use Rattle.sheet.specs.Body.{body_at, unless_dead}
use Rattle.sheet.specs.Rule.{bounded}
use Rattle.sheet.specs.declared.SheetKind.{SheetKind}
use Rattle.sheet.specs.declared.SheetKind.TheVariants.{Basic, Choice}
use Rattle.sheet.specs.declared.HeadPart.{HeadPart}
use Rattle.sheet.specs.declared.SheetRule.{SheetRule}

abbrev pub head_part : SheetKind → ℕ → ℕ → HeadPart
head_part kind bound next = record { kind = kind; bound = bound; next = next }

unfoldable pub choice_head : List ℕ → ℕ → ℕ → Result HeadPart Refusal
choice_head s n at = read_then Err (list_at s 1 n at) (λ heads. Ok (head_part (Choice heads) heads.next heads.next))

-- the bound after a head
unfoldable pub bound_head : List ℕ → Bool → Atom → ℕ → Result HeadPart Refusal
bound_head s weighs head at =
    read_then Err (number_at s at) (λ bound. Ok (head_part (bounded weighs head bound.value) at bound.next))

-- what comes after a single head: the bound, where the kind has one
unfoldable pub after_single : List ℕ → Kind → Atom → ℕ → Result HeadPart Refusal
after_single s basic head at = Ok (head_part (Basic head) at at)
after_single s constraint head at = bound_head s false head at
after_single s choice head at = bound_head s false head at
after_single s weight head at = bound_head s true head at

-- the head of a kind with a single head, and the bound where the kind has one
unfoldable pub single_head : List ℕ → ℕ → Kind → ℕ → Result HeadPart Refusal
single_head s n kind at =
    read_then Err (number_at s at)
    (λ number. read_then Err (ok_or (checked_atom n number.value) (refusal NoAtom at))
    (λ head. after_single s kind head number.next))

-- the head part of a kind
unfoldable pub kind_head : List ℕ → ℕ → Kind → ℕ → Result HeadPart Refusal
kind_head s n basic at = single_head s n basic at
kind_head s n constraint at = single_head s n constraint at
kind_head s n choice at = choice_head s n at
kind_head s n weight at = single_head s n weight at

-- the number of a kind, and its head part
unfoldable pub head_at : List ℕ → ℕ → ℕ → Result HeadPart Refusal
head_at s n at =
    read_then Err (number_at s at)
    (λ number. read_then Err (ok_or (checked_kind number.value) (refusal UnknownKind at)) (λ kind. kind_head s n kind number.next))

-- the body after a head part that was read, unless the rule's need is above the sum of its weights; a refusal is handed up
unfoldable pub body_after : List ℕ → ℕ → Result HeadPart Refusal → Result SheetRule Refusal
body_after s n got = read_then Err got (λ head. unless_dead s head.bound (body_at s n head.kind head.next))
