-- A rule that was read, or refused, as one turn of a run of rules.
use Prim.Native.Nat.{ℕ}
use mathlib.Core.Path.{◌≡◌, sym, ap, ◌∙◌}
use mathlib.Core.List.{List}
use Rattle.std.specs.Prelude.{Result, Ok, Err}
use Rattle.numbers.specs.Answer.{span, read_then}
use Rattle.numbers.specs.declared.Refusal.{Refusal}
use Rattle.sheet.specs.Rule.{rule_at, rule_step}
use Rattle.sheet.specs.declared.SheetRule.{SheetRule}

pub step_got :
    (s : List ℕ) (n before at : ℕ) (x : Result SheetRule Refusal) (rule : SheetRule) → x ≡ rule_at s n at → x ≡ Ok rule
    → rule_step s n before at ≡ Ok (span before at rule.next)
unfolding rule_step read_then
step_got s n before at x rule e g =
    ap (λ (t : Result SheetRule Refusal). read_then Err t (λ rule. Ok (span before at rule.next))) (sym e ∙ g)

pub step_out :
    (s : List ℕ) (n before at : ℕ) (x : Result SheetRule Refusal) (why : Refusal) → x ≡ rule_at s n at → x ≡ Err why
    → rule_step s n before at ≡ Err why
unfolding rule_step read_then
step_out s n before at x why e g =
    ap (λ (t : Result SheetRule Refusal). read_then Err t (λ rule. Ok (span before at rule.next))) (sym e ∙ g)
