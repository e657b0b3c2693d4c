-- The parts of a rule that was read: the kind that its number names, and a head, which is an atom among n.
use Prim.Native.Nat.{ℕ, ◌+◌, ◌≤◌}
use mathlib.Core.Path.{◌≡◌, sym, ap, subst, ◌∙◌}
use mathlib.Core.List.{List, [], ◌∷◌, flat_map, append-nil}
use native.Mathlib.Omega.{arith}
use Rattle.std.specs.Prelude.{ok_or, Result, Ok, Err}
use Rattle.rules.specs.Rule.{Within, kind_number, checked_kind}
use Rattle.rules.specs.Number.{checked_atom}
use Rattle.rules.specs.declared.kind.Kind.{Kind}
use Rattle.rules.specs.declared.Atom.{Atom}
use Rattle.rules.proofs.Inside.{atom_is}
use Rattle.numbers.specs.Answer.{refusal}
use Rattle.numbers.specs.Number.{number_at}
use Rattle.numbers.specs.Shown.Encode.{number_bytes, numbers_bytes, IsBytes}
use Rattle.numbers.specs.declared.reason.Reason.TheVariants.{UnknownKind, NoAtom}
use Rattle.numbers.specs.declared.Span.{Span}
use Rattle.numbers.specs.declared.Refusal.{Refusal}
use Rattle.numbers.proofs.Answer.{from_read, ok_some, not_ok}
use Rattle.numbers.proofs.Stands.{Stands, stands_as}
use Rattle.numbers.proofs.number.Most.{number_far}
use Rattle.numbers.proofs.number.Encoded.{number_bytes_law}
use Rattle.sheet.specs.Rule.{head_then, kind_at, rule_at}
use Rattle.sheet.specs.declared.SheetRule.{SheetRule}
use Rattle.sheet.proofs.rule.KindNumber.{kind_is}

-- the kind that was read, and the rule after its number
pub cases :
    (s : List ℕ) (n at : ℕ) (r : SheetRule) → rule_at s n at ≡ Ok r
    → (k : Span) × (number_at s at ≡ Ok k) × (kind : Kind) × (k.value ≡ kind_number kind) × (kind_at s n kind k.next ≡ Ok r)
unfolding rule_at
cases s n at r e =
    let g = from_read Err _ (number_at s at) not_ok e in
    let h = from_read Err _ (ok_or (checked_kind g.0.value) (refusal UnknownKind at)) not_ok g.2 in
    (g.0, g.1, h.0, kind_is g.0.value h.0 (ok_some _ _ h.1), h.2)

-- a head that was read
pub record HeadRan (s : List ℕ) (n at : ℕ) (head : Atom) (next : ℕ) : Type 0 where
  pub within : Within n head.number
  pub far : at + 1 ≤ next
  pub bytes : IsBytes s → Stands s at (numbers_bytes (head.number ∷ [])) next

pub head_ran :
    (s : List ℕ) (n at : ℕ) (next : Atom → ℕ → Result SheetRule Refusal) (r : SheetRule) → head_then s n at next ≡ Ok r
    → (head : Atom) × (place : ℕ) × HeadRan s n at head place × (next head place ≡ Ok r)
unfolding head_then flat_map
head_ran s n at next r e =
    let g = from_read Err _ (number_at s at) not_ok e in
    let a = from_read Err _ (ok_or (checked_atom n g.0.value) (refusal NoAtom at)) not_ok g.2 in
    let i = atom_is n g.0.value a.0 (ok_some _ _ a.1) in (
      a.0,
      g.0.next,
      record {
        within = subst (λ (x : Atom). Within n x.number) i.1 i.0;
        far = omega (arith, number_far s at g.0 g.1);
        bytes = λ is.
            stands_as (ap (λ (x : Atom). number_bytes x.number) i.1 ∙ sym (append-nil (number_bytes a.0.number)))
            (number_bytes_law s is at g.0 g.1);
      },
      a.2,
    )
