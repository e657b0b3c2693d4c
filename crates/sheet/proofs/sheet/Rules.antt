-- A run of rules that was read, rule by rule: each is one of the four kinds and has no dead bound, and together they have just the bytes that are written for
-- them.
use Prim.Native.Nat.{ℕ, zero, suc, ◌+◌, ◌*◌, ◌≤◌}
use mathlib.Core.Path.{◌≡◌, refl, sym, ap, subst, ◌∙◌}
use mathlib.Core.Logic.{⊎_elim}
use mathlib.Core.List.Memᴰ
use mathlib.Core.List.{List, [], ◌∷◌, flat_map, Memᴰ}
use native.Mathlib.Omega.{arith}
use lib.ListN.{length}
use Rattle.std.specs.Prelude.{Result, Ok, Err}
use Rattle.rules.specs.Rule.{Rule}
use Rattle.rules.specs.Stable.{Living}
use Rattle.numbers.specs.Lists.{in_turn, up_to}
use Rattle.numbers.specs.Shown.Encode.{IsBytes}
use Rattle.numbers.specs.Answer.{read_then}
use Rattle.numbers.specs.declared.Refusal.{Refusal}
use Rattle.numbers.specs.declared.Span.{Span}
use Rattle.numbers.proofs.Answer.{from_read, not_ok, same_ok}
use Rattle.numbers.proofs.Stands.{Stands, nothing, joined, stands_as}
use Rattle.sheet.specs.Rule.{rule_at, rule_step}
use Rattle.sheet.specs.RuleMeaning.{rule_meant}
use Rattle.sheet.specs.Meaning.{rules_from}
use Rattle.sheet.specs.Shown.Encode.{rules_bytes, ProperRules, no_rules, and_rule, AllLiving, rules_size}
use Rattle.sheet.specs.declared.SheetRule.{SheetRule}
use Rattle.sheet.proofs.rule.Means.{rule_ran}

pub rules_more :
    (s : List ℕ) (n left at : ℕ) (r : SheetRule) → rule_at s n at ≡ Ok r
    → rules_from (suc left) s n at ≡ rule_meant s r ∷ rules_from left s n r.next
unfolding rules_from read_then
rules_more s n left at r e =
    ap (λ (t : Result SheetRule Refusal). read_then (λ why. []) t (λ r. rule_meant s r ∷ rules_from left s n r.next)) e

-- the next rule of a run that was read, and the run of the others
pub rules_next :
    (s : List ℕ) (n left before : ℕ) (done p : Span) → in_turn (rule_step s n) (suc left) before done ≡ Ok p
    → (r : SheetRule) × (rule_at s n done.next ≡ Ok r) × (in_turn (rule_step s n) left before (up_to done r.next) ≡ Ok p)
unfolding in_turn rule_step
rules_next s n left before done p e =
    let g = from_read Err _ (rule_step s n before done.next) not_ok e in
    let h = from_read Err _ (rule_at s n done.next) not_ok g.1 in (
      h.0,
      h.1,
      subst (λ (q : Span). in_turn (rule_step s n) left q.value (up_to done q.next) ≡ Ok p) (sym (same_ok h.2)) g.2,
    )

and_living : {r : Rule} {rs : List Rule} → Living r → AllLiving rs → AllLiving (r ∷ rs)
and_living {r} {rs} l ls q m =
    ⊎_elim (λ (e : q ≡ r). subst Living (sym e) l) (λ (t : Memᴰ q rs). ls q t) (Memᴰ.cases_cons m)

pub record RulesRan (s : List ℕ) (n left at next : ℕ) : Type 0 where
  pub propers : ProperRules n (rules_from left s n at)
  pub living : AllLiving (rules_from left s n at)
  pub count : length (rules_from left s n at) ≡ left
  pub far : at + (rules_size (rules_from left s n at) + 3 * left) ≤ next
  pub bytes : IsBytes s → Stands s at (rules_bytes (rules_from left s n at)) next

pub rules_ran :
    (s : List ℕ) (n left before : ℕ) (done p : Span) → in_turn (rule_step s n) left before done ≡ Ok p
    → RulesRan s n left done.next p.next
unfolding in_turn rules_from rules_size flat_map
rules_ran s n zero before done p e =
    let q : done.next ≡ p.next = ap (λ (q : Span). q.next) (same_ok e) in
    record { propers = no_rules; living = λ r m. absurd (Memᴰ.not-nil m); count = refl; far = omega arith; bytes = λ is. nothing done.next p.next q }
rules_ran s n (suc left) before done p e =
    let g = rules_next s n left before done p e in
    let r = rule_ran s n done.next g.0 g.1 in
    let t = rules_ran s n left before (up_to done g.0.next) p g.2 in
    let m = rules_more s n left done.next g.0 g.1 in
    record {
      propers = subst (λ (rs : List Rule). ProperRules n rs) (sym m) (and_rule r.proper t.propers);
      living = subst (λ (rs : List Rule). AllLiving rs) (sym m) (and_living r.living t.living);
      count = ap length m ∙ ap suc t.count;
      far = omega (arith, ap rules_size m, r.far, t.far);
      bytes = λ is. stands_as (ap (λ (rs : List Rule). rules_bytes rs) (sym m)) (joined (r.bytes is) (t.bytes is));
    }
