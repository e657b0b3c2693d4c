-- What a rule that was read has read: the number of its kind, its head part and its body. So it is a rule of one of the four kinds over
-- n atoms, and has just the bytes that are written for it.
use Prim.Native.Nat.{ℕ, ◌+◌, ◌≤◌}
use mathlib.Core.Path.{◌≡◌, refl, sym, ap, ap₂, subst, ◌∙◌}
use mathlib.Core.Bool.{Bool, true, false, cond}
use mathlib.Core.List.{List, [], ◌∷◌, ◌++◌}
use native.Mathlib.Omega.{arith}
use lib.ListN.{length, length-map}
use Rattle.std.specs.Prelude.{Ok, Err}
use Rattle.rules.specs.Rule.{Rule, kind_number, one}
use Rattle.rules.specs.Stable.{weight_sum, Living}
use Rattle.rules.specs.declared.kind.Kind.{Kind}
use Rattle.rules.specs.declared.kind.Kind.TheVariants.{Basic as basic, Constraint as constraint, Choice as choice, Weight as weight}
use Rattle.rules.specs.declared.Atom.{Atom}
use Rattle.rules.proofs.Dead.{length_living}
use Rattle.numbers.specs.Number.{number_at}
use Rattle.numbers.specs.Lists.{list_at, numbers_of}
use Rattle.numbers.specs.Shown.Encode.{number_bytes, numbers_bytes, list_bytes, IsBytes, Rising}
use Rattle.numbers.specs.declared.Span.{Span}
use Rattle.numbers.proofs.Answer.{from_read, not_ok}
use Rattle.numbers.proofs.Stands.{Stands, joined, stands_as}
use Rattle.numbers.proofs.number.Most.{number_most_law, number_far}
use Rattle.numbers.proofs.number.Encoded.{number_bytes_law}
use Rattle.numbers.proofs.lists.Whole.{list_ran}
use Rattle.sheet.specs.Rule.{basic_at, bounded_at, choice_at, kind_at, rule_at}
use Rattle.sheet.specs.RuleMeaning.{paired, rule_by, rule_meant}
use Rattle.sheet.specs.Shown.Encode.{rule_bytes, ProperRule, is_basic, is_constraint, is_choice, is_weight, rule_size, Light}
use Rattle.sheet.specs.declared.SheetKind.{SheetKind}
use Rattle.sheet.specs.declared.SheetKind.TheVariants.{Basic, Constraint, Choice, Weight}
use Rattle.sheet.specs.declared.SheetRule.{SheetRule}
use Rattle.sheet.proofs.body.Ran.{BodyRan, body_ran, body_bytes_law, plain_bytes, body_far}
use Rattle.sheet.proofs.body.Dead.{Lives, from_dead}
use Rattle.sheet.proofs.rule.Apart.{ones_lists, weigh_atoms, weigh_weights, weigh_length}
use Rattle.sheet.proofs.rule.Ran.{cases, HeadRan, head_ran}

-- a rule that was read, and what it says
pub record RuleRan (s : List ℕ) (n at : ℕ) (r : SheetRule) (m : Rule) : Type 0 where
  pub proper : ProperRule n m
  pub living : Living m
  pub place : ℕ
  pub body : BodyRan s n r.kind place r
  pub need : m.need ≡ r.need
  pub far : at + 3 + rule_size m ≤ r.next
  pub bytes : IsBytes s → Stands s at (rule_bytes m) r.next

module _ (s : List ℕ) (n at : ℕ) (r : SheetRule) (k : Span) (number : number_at s at ≡ Ok k) where
  kind_bytes_law : (v : ℕ) → k.value ≡ v → IsBytes s → Stands s at (number_bytes v) k.next
  kind_bytes_law v e is = stands_as (ap (λ (x : ℕ). number_bytes x) e) (number_bytes_law s is at k number)

  -- what it says, by the kind that it was found to be
  by_kind : (kind : SheetKind) → r.kind ≡ kind → RuleRan s n at r (rule_by s kind r.positive r.negated) → RuleRan s n at r (rule_meant s r)
  unfolding rule_meant
  by_kind kind e h = subst (λ (d : SheetKind). RuleRan s n at r (rule_by s d r.positive r.negated)) (sym e) h

  -- its need, as the kind that it was found to be has it
  living_by :
      (kind : SheetKind) → r.kind ≡ kind → (need : ℕ) → r.need ≡ need → Lives s r
      → need ≤ weight_sum (rule_by s kind r.positive r.negated)
  unfolding rule_meant
  living_by kind e need d l =
      let w : weight_sum (rule_meant s r) ≡ weight_sum (rule_by s kind r.positive r.negated) =
      ap (λ (k : SheetKind). weight_sum (rule_by s k r.positive r.negated)) e in
      omega (arith, d, l, w)

  basic_ran : k.value ≡ kind_number basic → basic_at s n k.next ≡ Ok r → RuleRan s n at r (rule_meant s r)
  unfolding basic_at rule_bytes
  basic_ran v e =
      let g = head_ran s n k.next _ r e in
      let h = g.2 in
      let b = body_ran s n (Basic g.0) g.1 r g.3 in
      let xs = numbers_of s r.positive.atoms in
      let ys = numbers_of s r.negated.atoms in
      by_kind (Basic g.0) b.kind_is
      (record {
        proper = is_basic g.0.number xs ys refl h.within b.positive.rising b.negated.rising;
        living = length_living _ xs ys refl refl refl;
        place = g.1;
        body = subst (λ (d : SheetKind). BodyRan s n d g.1 r) (sym b.kind_is) b;
        need = omega (arith, b.need_is, b.positive.count, b.negated.count);
        far =
            omega (
              arith,
              length-map xs one,
              length-map ys one,
              number_far s at k number,
              h.far,
              body_far s n (Basic g.0) g.1 r b,
            );
        bytes = λ is.
            joined (kind_bytes_law (kind_number basic) v is)
            (joined (h.bytes is) (stands_as (ones_lists xs ys) (plain_bytes s n (Basic g.0) g.1 r (λ c. refl) b is)));
      })

  choice_ran : k.value ≡ kind_number choice → choice_at s n k.next ≡ Ok r → RuleRan s n at r (rule_meant s r)
  unfolding choice_at rule_bytes
  choice_ran v e =
      let g = from_read Err _ (list_at s 1 n k.next) not_ok e in
      let h = list_ran s 1 n k.next g.0 g.1 in
      let b = body_ran s n (Choice g.0) g.0.next r g.2 in
      let xs = numbers_of s r.positive.atoms in
      let ys = numbers_of s r.negated.atoms in
      by_kind (Choice g.0) b.kind_is
      (record {
        proper =
            is_choice (numbers_of s g.0) xs ys refl (omega (arith, h.low, h.count)) h.rising b.positive.rising
            b.negated.rising;
        living = length_living _ xs ys refl refl refl;
        place = g.0.next;
        body = subst (λ (d : SheetKind). BodyRan s n d g.0.next r) (sym b.kind_is) b;
        need = omega (arith, b.need_is, b.positive.count, b.negated.count);
        far =
            omega (
              arith,
              length-map xs one,
              length-map ys one,
              number_far s at k number,
              h.far,
              h.count,
              body_far s n (Choice g.0) g.0.next r b,
            );
        bytes = λ is.
            joined (kind_bytes_law (kind_number choice) v is)
            (joined (h.bytes is)
            (stands_as (ones_lists xs ys) (plain_bytes s n (Choice g.0) g.0.next r (λ c. refl) b is)));
      })

  -- a head and a bound, before a body
  module _
      (head : Atom)
      (place : ℕ)
      (h : HeadRan s n k.next head place)
      (bound : Span)
      (number' : number_at s place ≡ Ok bound)
    where
      bound_bytes :
          (v : ℕ) → k.value ≡ v → IsBytes s → {x : List ℕ} → Stands s bound.next x r.next
          → Stands s at (number_bytes v ++ (numbers_bytes (head.number ∷ []) ++ (number_bytes bound.value ++ x))) r.next
      bound_bytes v e is d =
          joined (kind_bytes_law v e is) (joined (h.bytes is) (joined (number_bytes_law s is place bound number') d))

      constraint_ran :
          k.value ≡ kind_number constraint → BodyRan s n (Constraint head bound.value) bound.next r → Lives s r
          → RuleRan s n at r (rule_meant s r)
      unfolding rule_bytes
      constraint_ran v b l =
          let xs = numbers_of s r.positive.atoms in
          let ys = numbers_of s r.negated.atoms in
          by_kind (Constraint head bound.value) b.kind_is
          (record {
            proper =
                is_constraint head.number bound.value xs ys refl h.within (number_most_law s place bound number')
                b.positive.rising
                b.negated.rising;
            living = living_by (Constraint head bound.value) b.kind_is bound.value b.need_is l;
            place = bound.next;
            body = subst (λ (d : SheetKind). BodyRan s n d bound.next r) (sym b.kind_is) b;
            need = sym b.need_is;
            far =
                omega (
                  arith,
                  length-map xs one,
                  length-map ys one,
                  number_far s at k number,
                  h.far,
                  number_far s place bound number',
                  body_far s n (Constraint head bound.value) bound.next r b,
                );
            bytes = λ is.
                bound_bytes (kind_number constraint) v is
                (stands_as (ones_lists xs ys) (plain_bytes s n (Constraint head bound.value) bound.next r (λ c. refl) b is));
          })

      weight_ran : k.value ≡ kind_number weight → BodyRan s n (Weight head bound.value) bound.next r → Lives s r → RuleRan s n at r (rule_meant s r)
      unfolding rule_bytes
      weight_ran v b l =
          let xs = numbers_of s r.positive.atoms in
          let ys = numbers_of s r.negated.atoms in
          let vs = numbers_of s r.positive.weights in
          let ws = numbers_of s r.negated.weights in
          let e : length xs ≡ length vs = b.positive.count ∙ sym b.above.value ∙ sym b.above.count in
          let f : length ys ≡ length ws = b.negated.count ∙ sym b.below.value ∙ sym b.below.count in
          by_kind (Weight head bound.value) b.kind_is
          (record {
            proper =
                is_weight head.number bound.value (paired xs vs) (paired ys ws) refl h.within
                (number_most_law s place bound number')
                (subst (λ (l : List ℕ). Rising n l) (sym (weigh_atoms xs vs e)) b.positive.rising)
                (subst (λ (l : List ℕ). Rising n l) (sym (weigh_atoms ys ws f)) b.negated.rising)
                (subst (λ (l : List ℕ). Light l) (sym (weigh_weights xs vs e)) b.above.light)
                (subst (λ (l : List ℕ). Light l) (sym (weigh_weights ys ws f)) b.below.light);
            living = living_by (Weight head bound.value) b.kind_is bound.value b.need_is l;
            place = bound.next;
            body = subst (λ (d : SheetKind). BodyRan s n d bound.next r) (sym b.kind_is) b;
            need = sym b.need_is;
            far =
                omega (
                  arith,
                  weigh_length xs vs e,
                  weigh_length ys ws f,
                  number_far s at k number,
                  h.far,
                  number_far s place bound number',
                  body_far s n (Weight head bound.value) bound.next r b,
                );
            bytes = λ is.
                bound_bytes (kind_number weight) v is
                (stands_as
                (ap₂ (λ (us ts : List ℕ). us ++ ts)
                (ap₂ (λ (us ts : List ℕ). list_bytes us ++ list_bytes ts) (sym (weigh_atoms xs vs e)) (sym (weigh_atoms ys ws f)))
                (ap₂ (λ (us ts : List ℕ). numbers_bytes us ++ numbers_bytes ts) (sym (weigh_weights xs vs e)) (sym (weigh_weights ys ws f))))
                (body_bytes_law s n (Weight head bound.value) bound.next r b is));
          })

  bounded_ran :
      (weighs : Bool) → k.value ≡ kind_number (cond weighs weight constraint) → bounded_at s n weighs k.next ≡ Ok r
      → RuleRan s n at r (rule_meant s r)
  unfolding bounded_at
  bounded_ran false v e =
      let g = head_ran s n k.next _ r e in
      let q = from_read Err _ (number_at s g.1) not_ok g.3 in
      let d = from_dead s g.1 _ r q.2 in
      constraint_ran g.0 g.1 g.2 q.0 q.1 v (body_ran s n (Constraint g.0 q.0.value) q.0.next r d.0) d.1
  bounded_ran true v e =
      let g = head_ran s n k.next _ r e in
      let q = from_read Err _ (number_at s g.1) not_ok g.3 in
      let d = from_dead s g.1 _ r q.2 in
      weight_ran g.0 g.1 g.2 q.0 q.1 v (body_ran s n (Weight g.0 q.0.value) q.0.next r d.0) d.1

  -- by the kind that its number names
  kind_ran : (kind : Kind) → k.value ≡ kind_number kind → kind_at s n kind k.next ≡ Ok r → RuleRan s n at r (rule_meant s r)
  unfolding kind_at
  kind_ran basic v e = basic_ran v e
  kind_ran constraint v e = bounded_ran false v e
  kind_ran choice v e = choice_ran v e
  kind_ran weight v e = bounded_ran true v e

pub rule_ran : (s : List ℕ) (n at : ℕ) (r : SheetRule) → rule_at s n at ≡ Ok r → RuleRan s n at r (rule_meant s r)
rule_ran s n at r e = let g = cases s n at r e in kind_ran s n at r g.0 g.1 g.2 g.3 g.4
