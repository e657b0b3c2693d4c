-- Rules are read in turn, so a rule with a dead bound is refused by 16 before anything is read that comes after it: the rules before it are
-- read as they were written, and the next turn is its.
use Prim.Native.Nat.{ℕ, ◌+◌, ◌-◌, ◌≤◌, ◌<◌}
use mathlib.Core.Path.{◌≡◌, refl, ap, ◌∙◌}
use mathlib.Core.List.{List, ◌++◌}
use native.Mathlib.Omega.{arith}
use lib.ListN.{length, drop}
use Rattle.std.specs.Prelude.{Result, Err}
use Rattle.rules.specs.Limits.{number_most, atoms_most, rules_most, bytes_most}
use Rattle.rules.specs.Rule.{Rule}
use Rattle.rules.specs.Stable.{Dead}
use Rattle.numbers.specs.Answer.{refusal, read_then, span}
use Rattle.numbers.specs.Lists.{in_turn, up_to}
use Rattle.numbers.specs.declared.reason.Reason.TheVariants.{BoundTooHigh}
use Rattle.numbers.specs.declared.Refusal.{Refusal}
use Rattle.numbers.specs.declared.Span.{Span}
use Rattle.numbers.proofs.Answer.{one_left}
use Rattle.sheet.specs.Rule.{rule_step, rules_at}
use Rattle.sheet.specs.Sheet.{tail_at, sheet_read}
use Rattle.sheet.specs.Meaning.{accepted, refused, sheet_meant, sheet_of}
use Rattle.sheet.specs.Shown.Encode.{rule_bytes, rules_bytes, before_bound, first_bytes, ProperRule, ProperRules, AllLiving}
use Rattle.sheet.specs.declared.Outline.{Outline}
use Rattle.sheet.proofs.rule.Laws.{step_out}
use Rattle.sheet.proofs.rule.Written.{rule_written, dead_read}
use Rattle.sheet.proofs.sheet.Written.{rules_written, atoms_small, counts_written}

module _ (n : ℕ) (rs : List Rule) (r : Rule) (q : List ℕ) (propers : ProperRules n rs) (living : AllLiving rs) (proper : ProperRule n r) (dead : Dead r) where
  rules_dead :
      (s : List ℕ) (before turns : ℕ) → n ≤ number_most → length rs < turns → (done : Span) → done.next ≤ length s
      → drop done.next s ≡ rules_bytes rs ++ (rule_bytes r ++ q)
      → in_turn (rule_step s n) turns before done ≡ Err (refusal BoundTooHigh (done.next + length (rules_bytes rs) + before_bound r))
  unfolding in_turn read_then
  rules_dead s before turns m few done h d =
      let at : ℕ = done.next + length (rules_bytes rs) in
      let w = rules_written s n before turns m propers living (omega arith) done (rule_bytes r ++ q) h d in
      let g = rule_written s n at m r q proper w.rest in
      w.runs
      ∙ ap (λ (k : ℕ). in_turn (rule_step s n) k before (up_to done at)) (one_left turns (length rs) few)
      ∙ ap
      (λ (a : Result Span Refusal). read_then Err a
      (λ one. in_turn (rule_step s n) (turns - (length rs + 1)) one.value (up_to (up_to done at) one.next)))
      (step_out s n before at _ _ refl (dead_read g.1 dead))

  module _ (count : ℕ) (few_atoms : n ≤ atoms_most) (few_rules : count ≤ rules_most) (more : length rs < count) where
    abbrev bytes : List ℕ
    bytes = first_bytes n count rs ++ (rule_bytes r ++ q)

    abbrev why : Refusal
    why = refusal BoundTooHigh (length (first_bytes n count rs) + before_bound r)

    sheet_dead : length bytes ≤ bytes_most → sheet_read bytes ≡ Err why
    unfolding rules_at read_then
    sheet_dead l =
        let b = counts_written bytes n count rs (rule_bytes r ++ q) few_atoms few_rules l refl in
        let ran = rules_dead bytes 0 count (atoms_small n few_atoms) more (span count b.place b.place) b.within b.rest in
        b.reads
        ∙ ap (λ (x : Result Span Refusal). read_then Err x (λ rules. tail_at bytes n rules)) ran
        ∙ ap (λ (p : ℕ). Err (refusal BoundTooHigh (p + before_bound r))) b.ends

    -- the first dead bound of a sheet, whatever comes after its rule, is refused by 16 where it stands
    pub dead_bound_refused : length bytes ≤ bytes_most → sheet_of bytes ≡ refused why
    unfolding sheet_of read_then
    dead_bound_refused l = ap (λ (c : Result Outline Refusal). read_then refused c (λ o. accepted (sheet_meant bytes o))) (sheet_dead l)
