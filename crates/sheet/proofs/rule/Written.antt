-- What is written for a rule of one of the four kinds is read as that rule: the number of its kind, its head part and its body. Then it is
-- refused by 16, at its bound, where its need is above the sum of its weights.
use Prim.Native.Nat.{ℕ, ◌+◌, ◌≤◌, ◌<◌}
use mathlib.Core.Path.{◌≡◌, refl, sym, ap, ap₂, subst, ◌∙◌}
use mathlib.Core.Bool.{Bool, true, false}
use mathlib.Core.List.{List, [], ◌∷◌, ◌++◌, flat_map, append_assoc, append-nil}
use native.Mathlib.Omega.{arith}
use lib.ListN.{length, drop, length-append}
use borrow.Author.Tests.{lt-ltb}
use Rattle.std.specs.Prelude.{Result, Ok, Err}
use Rattle.rules.specs.Limits.{number_most}
use Rattle.rules.specs.Rule.{Rule, Weighted, Within, ones, basic_rule, constraint_rule, choice_rule, weight_rule, atoms_of, weights_of}
use Rattle.rules.specs.Sum.{pick}
use Rattle.rules.specs.Stable.{weight_sum, Dead, Living}
use Rattle.rules.specs.declared.kind.Kind.TheVariants.{Basic as basic, Constraint as constraint, Choice as choice, Weight as weight}
use Rattle.rules.specs.declared.Atom.{Atom}
use Rattle.rules.proofs.Inside.{atom_made}
use Rattle.rules.proofs.Dead.{length_living}
use Rattle.numbers.specs.Answer.{refusal, read_then, span}
use Rattle.numbers.specs.Number.{number_at}
use Rattle.numbers.specs.Lists.{numbers_of}
use Rattle.numbers.specs.Shown.Encode.{number_bytes, numbers_bytes, list_bytes, none, Rising}
use Rattle.numbers.specs.declared.reason.Reason.TheVariants.{BoundTooHigh}
use Rattle.numbers.specs.declared.Refusal.{Refusal}
use Rattle.numbers.proofs.number.Encoded.{number_read, past}
use Rattle.numbers.proofs.lists.Whole.{list_span, list_read, list_numbers, list_past_law}
use Rattle.sheet.specs.Body.{need_for, body_at, unless_above, unless_dead}
use Rattle.sheet.specs.Rule.{head_then, bounded, basic_at, bounded_at, choice_at, kind_at, rule_at}
use Rattle.sheet.specs.RuleMeaning.{paired, paired_in, rule_by, rule_meant}
use Rattle.sheet.specs.Shown.Encode.{rule_bytes, before_bound, ProperRule, is_basic, is_constraint, is_choice, is_weight, Light}
use Rattle.sheet.specs.declared.SheetKind.{SheetKind}
use Rattle.sheet.specs.declared.SheetKind.TheVariants.{Basic, Constraint, Choice, Weight}
use Rattle.sheet.specs.declared.SheetRule.{SheetRule}
use Rattle.sheet.proofs.body.Ran.{body_ran}
use Rattle.sheet.proofs.body.Dead.{Lives, lives_on}
use Rattle.sheet.proofs.body.Written.{BodyWritten, body_written}
use Rattle.sheet.proofs.rule.KindNumber.{kind_made}
use Rattle.sheet.proofs.rule.Apart.{plain_body, sizes, weigh_back}

pub record RuleWritten (s : List ℕ) (n at : ℕ) (m : Rule) (q : List ℕ) (r : SheetRule) : Type 0 where
  pub reads : rule_at s n at ≡ unless_dead s (at + before_bound m) (Ok r)
  pub means : rule_meant s r ≡ m
  pub need : r.need ≡ m.need
  pub rest : drop r.next s ≡ q

-- its need is at most the sum of its weights, or above it, as it means
module _ (s : List ℕ) {m : Rule} (r : SheetRule) (means : rule_meant s r ≡ m) (need : r.need ≡ m.need) where
  lives : Living m → Lives s r
  lives l = omega (arith, need, l, ap (λ (t : Rule). weight_sum t) means)

  dies : Dead m → weight_sum (rule_meant s r) < r.need
  dies d = omega (arith, need, d, ap (λ (t : Rule). weight_sum t) means)

module _ {s : List ℕ} {n at : ℕ} {m : Rule} {q : List ℕ} {r : SheetRule} (w : RuleWritten s n at m q r) where
  pub living_read : Living m → rule_at s n at ≡ Ok r
  living_read l = w.reads ∙ lives_on s (at + before_bound m) (Ok r) r refl (lives s r w.means w.need l)

  pub dead_read : Dead m → rule_at s n at ≡ Err (refusal BoundTooHigh (at + before_bound m))
  unfolding unless_dead read_then unless_above pick
  dead_read d =
      w.reads
      ∙ ap (λ (b : Bool). pick b (Err (refusal BoundTooHigh (at + before_bound m))) (Ok r))
      (lt-ltb (weight_sum (rule_meant s r)) r.need (dies s r w.means w.need d))

abbrev numbered : ℕ → Atom
numbered h = record { number = h }

head_read :
    (s : List ℕ) (n at h : ℕ) (q : List ℕ) (next : Atom → ℕ → Result SheetRule Refusal) → n ≤ number_most → Within n h
    → drop at s ≡ number_bytes h ++ q → head_then s n at next ≡ next (numbered h) (at + length (number_bytes h))
unfolding head_then read_then
head_read s n at h q next m w d =
    simp (number_read s at h q (omega (arith, w.high)) d, atom_made n h w)

-- what a rule says whose body was written
module _ {s : List ℕ} {n at : ℕ} {kind : SheetKind} {xs ys vs ws q : List ℕ} {r : SheetRule} (b : BodyWritten s n kind at xs ys vs ws q r) where
  by_kind : rule_meant s r ≡ rule_by s kind r.positive r.negated
  unfolding rule_meant
  by_kind = ap (λ (k : SheetKind). rule_by s k r.positive r.negated) b.kind_is

  by_lists :
      {A : Type 0} (f : List ℕ → List ℕ → A)
      → f (numbers_of s r.positive.atoms) (numbers_of s r.negated.atoms) ≡ f xs ys
  by_lists f = ap₂ f b.positive b.negated

  weighed_back : {A : Type 0} (f : List Weighted → List Weighted → A) (ls ms : List Weighted) → xs ≡ atoms_of ls → ys ≡ atoms_of ms
      → vs ≡ weights_of ls → ws ≡ weights_of ms → f (paired_in s r.positive) (paired_in s r.negated) ≡ f ls ms
  weighed_back f ls ms ex ey ev ew =
      ap₂ f
      (ap₂ (λ (us ts : List ℕ). paired us ts) (b.positive ∙ ex) (b.above ∙ ev) ∙ weigh_back ls)
      (ap₂ (λ (us ts : List ℕ). paired us ts) (b.negated ∙ ey) (b.below ∙ ew) ∙ weigh_back ms)

  needed : r.need ≡ need_for kind (length xs + length ys)
  needed =
      let o = body_ran s n kind at r b.reads in
      o.need_is
      ∙ ap₂ (λ (j k : ℕ). need_for kind (j + k)) (sym o.positive.count ∙ ap length b.positive)
      (sym o.negated.count ∙ ap length b.negated)

module _ (s : List ℕ) (n at : ℕ) (m : n ≤ number_most) where
  -- a rule without a bound
  plainly :
      (t : Rule) (q : List ℕ) (r : SheetRule) → rule_at s n at ≡ Ok r → rule_meant s r ≡ t → r.need ≡ t.need → Living t
      → drop r.next s ≡ q → RuleWritten s n at t q r
  plainly t q r e means need l rest =
      record {
        reads = e ∙ sym (lives_on s (at + before_bound t) (Ok r) r refl (lives s r means need l));
        means = means;
        need = need;
        rest = rest;
      }

  basic_written :
      (h : ℕ) (xs ys q : List ℕ) → Within n h → Rising n xs → Rising n ys → drop at s ≡ rule_bytes (basic_rule h xs ys) ++ q
      → (r : SheetRule) × RuleWritten s n at (basic_rule h xs ys) q r
  unfolding rule_bytes rule_at kind_at basic_at read_then rule_meant flat_map number_most
  basic_written h xs ys q w rx ry d =
      let x : List ℕ = (list_bytes xs ++ list_bytes ys) ++ q in
      let d₁ : drop at s ≡ number_bytes 1 ++ (number_bytes h ++ x) =
      d
      ∙ regroup (number_bytes 1) (number_bytes h) (list_bytes (atoms_of (ones xs)) ++ list_bytes (atoms_of (ones ys))) q
      ∙ ap (λ (l : List ℕ). number_bytes 1 ++ (number_bytes h ++ l)) (plain_body xs ys q) in
      let a₁ : ℕ = at + length (number_bytes 1) in
      let d₂ : drop a₁ s ≡ number_bytes h ++ x = past s (number_bytes 1) _ at d₁ in
      let a₂ : ℕ = a₁ + length (number_bytes h) in
      let b = body_written s n (Basic (numbered h)) a₂ xs ys [] [] q m rx ry none none refl refl (past s (number_bytes h) x a₁ d₂) in (
        b.0,
        plainly (basic_rule h xs ys) q b.0
            (simp (number_read s at 1 _ (omega arith) d₁, kind_made basic, head_read s n a₁ h x (λ head next. body_at s n (Basic head) next) m w d₂, b.1.reads))
            (by_kind b.1 ∙ by_lists b.1 (λ us vs. basic_rule h us vs))
            (needed b.1)
            (length_living (basic_rule h xs ys) xs ys refl refl refl)
            b.1.rest,
      )
    where
      regroup : (a b c e : List ℕ) → (a ++ ((b ++ []) ++ c)) ++ e ≡ a ++ (b ++ (c ++ e))
      regroup a b c e = simp (append_assoc, append-nil)

  as_rule_law :
      (t u : Rule) (q : List ℕ) → t ≡ u → drop at s ≡ rule_bytes t ++ q
      → (drop at s ≡ rule_bytes u ++ q → (r : SheetRule) × RuleWritten s n at u q r) → (r : SheetRule) × RuleWritten s n at t q r
  as_rule_law t u q e d f =
      let g = f (subst (λ (v : Rule). drop at s ≡ rule_bytes v ++ q) e d) in
      (g.0, subst (λ (v : Rule). RuleWritten s n at v q g.0) (sym e) g.1)

  choice_written :
      (hs xs ys q : List ℕ) → 1 ≤ length hs → Rising n hs → Rising n xs → Rising n ys → drop at s ≡ rule_bytes (choice_rule hs xs ys) ++ q
      → (r : SheetRule) × RuleWritten s n at (choice_rule hs xs ys) q r
  unfolding rule_bytes rule_at kind_at choice_at read_then rule_meant flat_map number_most
  choice_written hs xs ys q o rh rx ry d =
      let x : List ℕ = (list_bytes xs ++ list_bytes ys) ++ q in
      let d₁ : drop at s ≡ number_bytes 3 ++ (list_bytes hs ++ x) =
      d
      ∙ regroup (number_bytes 3) (list_bytes hs) (list_bytes (atoms_of (ones xs)) ++ list_bytes (atoms_of (ones ys))) q
      ∙ ap (λ (l : List ℕ). number_bytes 3 ++ (list_bytes hs ++ l)) (plain_body xs ys q) in
      let a₁ : ℕ = at + length (number_bytes 3) in
      let d₂ : drop a₁ s ≡ list_bytes hs ++ x = past s (number_bytes 3) _ at d₁ in
      let a₂ : ℕ = a₁ + length (list_bytes hs) in
      let b =
      body_written s n (Choice (list_span a₁ hs)) a₂ xs ys [] [] q m rx ry none none refl refl
      (list_past_law s 1 n a₁ hs x m rh d₂) in (
        b.0,
        plainly (choice_rule hs xs ys) q b.0
            (simp (number_read s at 3 _ (omega arith) d₁, kind_made choice, list_read s 1 n a₁ hs x m rh d₂ o, b.1.reads))
            (by_kind b.1
            ∙ by_lists b.1 (λ us vs. choice_rule (numbers_of s (list_span a₁ hs)) us vs)
            ∙ ap (λ (us : List ℕ). choice_rule us xs ys) (list_numbers s 1 n a₁ hs x m rh d₂))
            (needed b.1)
            (length_living (choice_rule hs xs ys) xs ys refl refl refl)
            b.1.rest,
      )
    where
      regroup : (a b c e : List ℕ) → (a ++ (b ++ c)) ++ e ≡ a ++ (b ++ (c ++ e))
      regroup a b c e = simp append_assoc

  -- a kind, a head and a bound that were written, before a body
  record BoundWritten (weighs : Bool) (v h k : ℕ) (q : List ℕ) : Type 0 where
    kind : number_at s at ≡ Ok (span v at (at + length (number_bytes v)))
    place : ℕ
    bound :
        bounded_at s n weighs (at + length (number_bytes v))
        ≡ unless_dead s (at + length (number_bytes v ++ numbers_bytes (h ∷ []))) (body_at s n (bounded weighs (numbered h) k) place)
    rest : drop place s ≡ q

  bound_written :
      (weighs : Bool) (v h k : ℕ) (c q : List ℕ) → v ≤ number_most → Within n h → k ≤ number_most
      → drop at s ≡ (number_bytes v ++ (numbers_bytes (h ∷ []) ++ (number_bytes k ++ c))) ++ q → BoundWritten weighs v h k (c ++ q)
  unfolding bounded_at read_then flat_map
  bound_written weighs v h k c q mv w mk d =
      let d₁ : drop at s ≡ number_bytes v ++ (number_bytes h ++ (number_bytes k ++ (c ++ q))) =
      d ∙ regroup (number_bytes v) (number_bytes h) (number_bytes k) c q in
      let a₁ : ℕ = at + length (number_bytes v) in
      let d₂ : drop a₁ s ≡ number_bytes h ++ (number_bytes k ++ (c ++ q)) = past s (number_bytes v) _ at d₁ in
      let a₂ : ℕ = a₁ + length (number_bytes h) in
      let d₃ : drop a₂ s ≡ number_bytes k ++ (c ++ q) = past s (number_bytes h) _ a₁ d₂ in
      let a₃ : ℕ = a₂ + length (number_bytes k) in
      let read : bounded_at s n weighs a₁ ≡ unless_dead s a₂ (body_at s n (bounded weighs (numbered h) k) a₃) =
      simp (
        head_read s n a₁ h _
            (λ head next. read_then Err (number_at s next)
            (λ bound. unless_dead s next (body_at s n (bounded weighs head bound.value) bound.next)))
            m
            w
            d₂,
        number_read s a₂ k _ mk d₃,
      ) in
      let first : a₂ ≡ at + length (number_bytes v ++ (number_bytes h ++ [])) =
      omega (arith, length-append (number_bytes v) (number_bytes h ++ []), ap length (append-nil (number_bytes h))) in
      record {
        kind = number_read s at v _ mv d₁;
        place = a₃;
        bound = read ∙ ap (λ (p : ℕ). unless_dead s p (body_at s n (bounded weighs (numbered h) k) a₃)) first;
        rest = past s (number_bytes k) _ a₂ d₃;
      }
    where
      regroup : (a b e f g : List ℕ) → (a ++ ((b ++ []) ++ (e ++ f))) ++ g ≡ a ++ (b ++ (e ++ (f ++ g)))
      regroup a b e f g = simp (append_assoc, append-nil)

  constraint_written :
      (h k : ℕ) (xs ys q : List ℕ) → Within n h → k ≤ number_most → Rising n xs → Rising n ys
      → drop at s ≡ rule_bytes (constraint_rule h k xs ys) ++ q → (r : SheetRule) × RuleWritten s n at (constraint_rule h k xs ys) q r
  unfolding rule_bytes rule_at kind_at read_then rule_meant flat_map number_most
  constraint_written h k xs ys q w mk rx ry d =
      let lists : List ℕ = list_bytes (atoms_of (ones xs)) ++ list_bytes (atoms_of (ones ys)) in
      let g = bound_written false 2 h k lists q (omega arith) w mk d in
      let b =
      body_written s n (Constraint (numbered h) k) g.place xs ys [] [] q m rx ry none none refl refl
      (g.rest ∙ plain_body xs ys q) in (
        b.0,
        record {
          reads = simp (g.kind, kind_made constraint, g.bound, b.1.reads);
          means = by_kind b.1 ∙ by_lists b.1 (λ us vs. constraint_rule h k us vs);
          need = needed b.1;
          rest = b.1.rest;
        },
      )

  weight_written :
      (h k : ℕ) (xs ys : List Weighted) (q : List ℕ) → Within n h → k ≤ number_most → Rising n (atoms_of xs) → Rising n (atoms_of ys)
      → Light (weights_of xs) → Light (weights_of ys) → drop at s ≡ rule_bytes (weight_rule h k xs ys) ++ q
      → (r : SheetRule) × RuleWritten s n at (weight_rule h k xs ys) q r
  unfolding rule_bytes rule_at kind_at read_then rule_meant number_most
  weight_written h k xs ys q w mk rx ry lx ly d =
      let lists : List ℕ = list_bytes (atoms_of xs) ++ list_bytes (atoms_of ys) in
      let weights : List ℕ = numbers_bytes (weights_of xs) ++ numbers_bytes (weights_of ys) in
      let g = bound_written true 5 h k (lists ++ weights) q (omega arith) w mk d in
      let b =
      body_written s n (Weight (numbered h) k) g.place (atoms_of xs) (atoms_of ys) (weights_of xs) (weights_of ys) q m rx ry lx ly
      (sizes xs)
      (sizes ys)
      (g.rest ∙ append_assoc lists weights q) in (
        b.0,
        record {
          reads = simp (g.kind, kind_made weight, g.bound, b.1.reads);
          means = by_kind b.1 ∙ weighed_back b.1 (λ us vs. weight_rule h k us vs) xs ys refl refl refl refl;
          need = needed b.1;
          rest = b.1.rest;
        },
      )

  pub rule_written :
      (t : Rule) (q : List ℕ) → ProperRule n t → drop at s ≡ rule_bytes t ++ q → (r : SheetRule) × RuleWritten s n at t q r
  rule_written t q (is_basic h xs ys e w x y) d = as_rule_law t _ q e d (λ z. basic_written h xs ys q w x y z)
  rule_written t q (is_constraint h k xs ys e w b x y) d = as_rule_law t _ q e d (λ z. constraint_written h k xs ys q w b x y z)
  rule_written t q (is_choice hs xs ys e o w x y) d = as_rule_law t _ q e d (λ z. choice_written hs xs ys q o w x y z)
  rule_written t q (is_weight h k xs ys e w b x y v u) d = as_rule_law t _ q e d (λ z. weight_written h k xs ys q w b x y v u z)
