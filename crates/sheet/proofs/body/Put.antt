-- A rule whose lists were read, put together: without weights, each of its literals weighs 1; with weights, they are those that were read and
-- added up.
use Prim.Native.Nat.{ℕ, ◌+◌}
use mathlib.Core.Path.{◌≡◌, refl, sym, ap, ◌∙◌}
use mathlib.Core.Bool.{Bool, true, false}
use mathlib.Core.List.{List, [], ◌∷◌}
use native.Mathlib.Omega.{arith}
use lib.ListN.{length}
use Rattle.std.specs.Prelude.{Result, Ok, Err}
use Rattle.rules.specs.Sum.{tally}
use Rattle.rules.specs.Stable.{gain, value, everything, weight_sum}
use Rattle.numbers.specs.Answer.{span, read_then}
use Rattle.numbers.specs.Lists.{in_turn, numbers_from, numbers_of}
use Rattle.numbers.specs.declared.Refusal.{Refusal}
use Rattle.numbers.specs.declared.Span.{Span}
use Rattle.numbers.proofs.Answer.{got}
use Rattle.numbers.proofs.lists.Numbers.{numbers_count}
use Rattle.sheet.specs.Body.{weights_at, weights_due, need_for, weighed_at, unless_above, unless_dead}
use Rattle.sheet.specs.RuleMeaning.{paired, rule_by, rule_meant}
use Rattle.sheet.specs.Inner.Sums.{sum_of, sum_at, weighed}
use Rattle.sheet.specs.Inner.Unweighed.{is_plain, unweighed}
use Rattle.sheet.specs.declared.SheetKind.{SheetKind}
use Rattle.sheet.specs.declared.SheetKind.TheVariants.{Basic, Constraint, Choice, Weight}
use Rattle.sheet.specs.declared.Literals.{Literals}
use Rattle.sheet.specs.declared.SheetRule.{SheetRule}
use Rattle.sheet.proofs.body.Sums.{SumRan, sum_ran, sum_refused}
use Rattle.sheet.proofs.body.Dead.{no_two, dead_got, dead_handed, plain_weighs}

-- literals that are weighed weigh what their weights add up to
paired_sum : (xs ws : List ℕ) → length xs ≡ length ws → gain everything (paired xs ws) ≡ sum_of ws
unfolding paired tally
paired_sum [] [] e = refl
paired_sum [] (w ∷ ws) e = absurd (omega arith)
paired_sum (x ∷ xs) [] e = absurd (omega arith)
paired_sum (x ∷ xs) (w ∷ ws) e = ap (λ (k : ℕ). w + k) (paired_sum xs ws (omega arith))

abbrev rule_with : SheetKind → ℕ → Literals → Literals → ℕ → SheetRule
rule_with kind need positive negated next =
    record { kind = kind; need = need; positive = positive; negated = negated; next = next }

module _ (s : List ℕ) (bound : ℕ) (positive negated : Span) where
  abbrev read : SheetKind → Result SheetRule Refusal
  read kind = weighed_at s kind (need_for kind (positive.value + negated.value)) positive negated

  -- a rule that was put together, with the sum of its weights
  put :
      (kind : SheetKind) (x : Result SheetRule Refusal) (r : SheetRule) (sum : ℕ) → x ≡ unless_above sum bound r → sum ≡ weight_sum (rule_meant s r)
      → Ok r ≡ read kind → x ≡ unless_dead s bound (read kind)
  unfolding unless_dead read_then
  put kind x r sum h e m = h ∙ ap (λ (k : ℕ). unless_above k bound r) e ∙ ap (unless_dead s bound) m

  plain_read :
      (kind : SheetKind) → is_plain kind ≡ true
      → Ok (rule_with kind (need_for kind (positive.value + negated.value)) (unweighed positive negated.next) (unweighed negated negated.next) negated.next)
      ≡ read kind
  unfolding weighed_at weights_at in_turn read_then
  plain_read (Basic head) h = refl
  plain_read (Constraint head k) h = refl
  plain_read (Choice heads) h = refl
  plain_read (Weight head k) h = absurd (no_two h)

  module _ (kind : SheetKind) {b : Bool} (w : b ≡ is_plain kind) {due : ℕ} (d : due ≡ need_for kind (positive.value + negated.value)) (x : Result SheetRule Refusal) where
    pub plain_weighed :
        b ≡ true → {p q : Literals} → p ≡ unweighed positive negated.next → q ≡ unweighed negated negated.next
        → x ≡ unless_above (positive.value + negated.value) bound (rule_with kind due p q negated.next) → x ≡ unless_dead s bound (read kind)
    unfolding rule_meant
    plain_weighed t e f h =
        put kind x _ _
        (h ∙ (λ j. unless_above (positive.value + negated.value) bound (rule_with kind (d j) (e j) (f j) negated.next)))
        (sym (plain_weighs s kind (unweighed positive negated.next) (unweighed negated negated.next) (sym w ∙ t)))
        (plain_read kind (sym w ∙ t))

    -- the weights that were read, where the kind has weights
    weights_due_law : b ≡ false → (count at : ℕ) → weights_at s (weights_due kind count) at ≡ weights_at s count at
    weights_due_law t count at = by kind (sym w ∙ t)
      where
        by : (kind : SheetKind) → is_plain kind ≡ false → weights_at s (weights_due kind count) at ≡ weights_at s count at
        by (Basic head) h = absurd (no_two (sym h))
        by (Constraint head k) h = absurd (no_two (sym h))
        by (Choice heads) h = absurd (no_two (sym h))
        by (Weight head k) h = refl

    pub above_refused :
        b ≡ false → {a : Result Span Refusal} → a ≡ sum_at s 0 positive.value negated.next → (why : Refusal) → a ≡ Err why → x ≡ Err why
        → x ≡ unless_dead s bound (read kind)
    unfolding weighed_at
    above_refused t h why g e =
        dead_handed s bound x _ _ _
        (sym (sum_refused s 0 positive.value negated.next why (sym h ∙ g)) ∙ sym (weights_due_law t positive.value negated.next))
        why refl e

    module _ (t : b ≡ false) {a : Result Span Refusal} (h : a ≡ sum_at s 0 positive.value negated.next) (v : Span) (g : a ≡ Ok v) where
      first : SumRan s 0 positive.value negated.next v
      first = sum_ran s 0 positive.value negated.next v (sym h ∙ g)

      pub below_refused :
          {c : Result Span Refusal} → c ≡ sum_at s v.value negated.value v.next → (why : Refusal) → c ≡ Err why → x ≡ Err why
          → x ≡ unless_dead s bound (read kind)
      unfolding weighed_at
      below_refused i why j e =
          dead_got s bound x _ _ _
          (sym first.reads ∙ sym (weights_due_law t positive.value negated.next))
          _
          refl
          (dead_handed s bound x _ _ _
          (sym (sum_refused s v.value negated.value v.next why (sym i ∙ j)) ∙ sym (weights_due_law t negated.value v.next))
          why
          refl
          e)

      module _ {c : Result Span Refusal} (i : c ≡ sum_at s v.value negated.value v.next) (u : Span) (j : c ≡ Ok u) where
        second : SumRan s v.value negated.value v.next u
        second = sum_ran s v.value negated.value v.next u (sym i ∙ j)

        abbrev rule : SheetRule
        rule =
            rule_with kind (need_for kind (positive.value + negated.value)) (weighed positive v) (weighed negated u) u.next

        rule_sum : u.value ≡ weight_sum (rule_meant s rule)
        unfolding rule_meant value
        rule_sum = by kind (sym w ∙ t)
          where
            one :
                (atoms weights : Span) (at : ℕ) → weights.first ≡ at
                → sum_of (numbers_from atoms.value s at)
                ≡ gain everything (paired (numbers_of s atoms) (numbers_from atoms.value s weights.first))
            one atoms weights at f =
                ap (λ (k : ℕ). sum_of (numbers_from atoms.value s k)) (sym f)
                ∙ sym
                (paired_sum (numbers_of s atoms) (numbers_from atoms.value s weights.first)
                (numbers_count s atoms.value atoms.first ∙ sym (numbers_count s atoms.value weights.first)))

            by : (kind : SheetKind) → is_plain kind ≡ false → u.value ≡ weight_sum (rule_by s kind (weighed positive v) (weighed negated u))
            by (Basic head) h = absurd (no_two (sym h))
            by (Constraint head k) h = absurd (no_two (sym h))
            by (Choice heads) h = absurd (no_two (sym h))
            by (Weight head k) h =
                omega (
                  arith,
                  first.sum_is,
                  one positive v negated.next first.first_is,
                  second.sum_is,
                  one negated u v.next second.first_is,
                )

        rule_read : Ok rule ≡ read kind
        unfolding weighed_at
        rule_read =
            got _ (Result SheetRule Refusal) _ Err _ _ _ _
            (sym first.reads ∙ sym (weights_due_law t positive.value negated.next))
            refl
            (got _ (Result SheetRule Refusal) _ Err _ _ _ _
            (sym second.reads ∙ sym (weights_due_law t negated.value v.next))
            refl
            (λ k. Ok
            (rule_with kind (need_for kind (positive.value + negated.value))
            (record { atoms = positive; weights = span positive.value (first.first_is k) v.next })
            (record { atoms = negated; weights = span negated.value (second.first_is k) u.next })
            u.next)))

        pub weights_read :
            {p q : Literals} → p ≡ weighed positive v → q ≡ weighed negated u
            → x ≡ unless_above u.value bound (rule_with kind due p q u.next) → x ≡ unless_dead s bound (read kind)
        weights_read e f k =
            put kind x rule u.value
            (k ∙ (λ j. unless_above u.value bound (rule_with kind (d j) (e j) (f j) u.next)))
            rule_sum
            rule_read
