-- What a body that was read has read: two lists, and the weights that its kind calls for. Each part is what the laws of lists and runs
-- say of it.
use Prim.Native.Nat.{ℕ, ◌+◌, ◌≤◌}
use mathlib.Core.Path.{◌≡◌, refl, sym, ap, ap₂, subst, ◌∙◌}
use mathlib.Core.List.{List, ◌++◌, flat_map, append-nil}
use native.Mathlib.Omega.{arith}
use lib.ListN.{length}
use Rattle.std.specs.Prelude.{Result, Ok, Err}
use Rattle.rules.specs.Limits.{weight_most}
use Rattle.numbers.specs.Answer.{span}
use Rattle.numbers.specs.Number.{number_at}
use Rattle.numbers.specs.Lists.{list_at, numbers_from, numbers_of}
use Rattle.numbers.specs.Shown.Encode.{numbers_bytes, list_bytes, IsBytes}
use Rattle.numbers.specs.declared.Refusal.{Refusal}
use Rattle.numbers.specs.declared.Span.{Span}
use Rattle.numbers.proofs.lists.Numbers.{numbers_count}
use Rattle.numbers.proofs.Answer.{from_read, not_ok, same_ok}
use Rattle.numbers.proofs.Stands.{Stands, joined, stands_as, stands_to}
use Rattle.numbers.proofs.number.Most.{limited}
use Rattle.numbers.proofs.lists.Most.{run_keeps}
use Rattle.numbers.proofs.lists.Encoded.{ran}
use Rattle.numbers.proofs.lists.Whole.{ListRan, list_ran}
use Rattle.sheet.specs.Body.{weight_at, weights_at, weights_due, need_for, weighed_at, body_at}
use Rattle.sheet.specs.Shown.Encode.{LightOne, Light}
use Rattle.sheet.specs.declared.SheetKind.{SheetKind}
use Rattle.sheet.specs.declared.SheetRule.{SheetRule}

weight_sound :
    (s : List ℕ) (before at : ℕ) (one : Span) → weight_at s before at ≡ Ok one → (number_at s at ≡ Ok one) × LightOne before one.value
unfolding weight_at
weight_sound s before at one e =
    let l = limited s 0 weight_most at one e in
    (l.number, record { most = l.high })

-- weights that were read
pub record WeightsRan (s : List ℕ) (due at : ℕ) (p : Span) : Type 0 where
  pub value : p.value ≡ due
  pub light : Light (numbers_of s p)
  pub count : length (numbers_of s p) ≡ p.value
  pub far : at + p.value ≤ p.next
  pub bytes : IsBytes s → Stands s at (numbers_bytes (numbers_of s p)) p.next

pub weights_ran : (s : List ℕ) (count at : ℕ) (p : Span) → weights_at s count at ≡ Ok p → WeightsRan s count at p
unfolding weights_at
weights_ran s count at p e =
    let k = run_keeps (weight_at s) count 0 (span count at at) p e in
    let r = ran s LightOne (weight_at s) (weight_sound s) count 0 (span count at at) p e in
    let v : count ≡ p.value = sym k.0 in
    let same : numbers_from count s at ≡ numbers_of s p = ap₂ (λ (n f : ℕ). numbers_from n s f) v (sym k.1) in
    record {
      value = k.0;
      light = subst (λ (ws : List ℕ). Light ws) same r.linked;
      count = numbers_count s p.value p.first;
      far = omega (arith, r.far);
      bytes = λ is. stands_as (ap (λ (ws : List ℕ). numbers_bytes ws) same) (r.bytes is);
    }

-- a body that was read, of a rule of this kind
pub record BodyRan (s : List ℕ) (n : ℕ) (kind : SheetKind) (at : ℕ) (r : SheetRule) : Type 0 where
  pub kind_is : r.kind ≡ kind
  pub need_is : r.need ≡ need_for kind (r.positive.atoms.value + r.negated.atoms.value)
  pub positive : ListRan s 0 n at r.positive.atoms
  pub negated : ListRan s 0 n r.positive.atoms.next r.negated.atoms
  pub above :
      WeightsRan s (weights_due kind r.positive.atoms.value) r.negated.atoms.next r.positive.weights
  pub below :
      WeightsRan s (weights_due kind r.negated.atoms.value) r.positive.weights.next r.negated.weights
  pub next_is : r.next ≡ r.negated.weights.next

pub body_ran : (s : List ℕ) (n : ℕ) (kind : SheetKind) (at : ℕ) (r : SheetRule) → body_at s n kind at ≡ Ok r → BodyRan s n kind at r
unfolding body_at weighed_at
body_ran s n kind at r e =
    let p = from_read Err _ (list_at s 0 n at) not_ok e in
    let q = from_read Err _ (list_at s 0 n p.0.next) not_ok p.2 in
    let a = from_read Err _ (weights_at s (weights_due kind p.0.value) q.0.next) not_ok q.2 in
    let b = from_read Err _ (weights_at s (weights_due kind q.0.value) a.0.next) not_ok a.2 in
    made p.0 q.0 a.0 b.0 p.1 q.1 a.1 b.1 b.2
  where
    made :
        (p q a b : Span) → list_at s 0 n at ≡ Ok p → list_at s 0 n p.next ≡ Ok q
        → weights_at s (weights_due kind p.value) q.next ≡ Ok a → weights_at s (weights_due kind q.value) a.next ≡ Ok b
        → ◌≡◌ {A = Result SheetRule Refusal}
        (Ok (record {
          kind = kind;
          need = need_for kind (p.value + q.value);
          positive = record { atoms = p; weights = a };
          negated = record { atoms = q; weights = b };
          next = b.next;
        }))
        (Ok r)
        → BodyRan s n kind at r
    made p q a b hp hq ha hb z =
        subst (λ (t : SheetRule). BodyRan s n kind at t) (same_ok z)
        (record {
          kind_is = refl;
          need_is = refl;
          positive = list_ran s 0 n at p hp;
          negated = list_ran s 0 n p.next q hq;
          above = weights_ran s (weights_due kind p.value) q.next a ha;
          below = weights_ran s (weights_due kind q.value) a.next b hb;
          next_is = refl;
        })

-- the bytes of a body that was read: its lists and then its weights
pub body_bytes_law :
    (s : List ℕ) (n : ℕ) (kind : SheetKind) (at : ℕ) (r : SheetRule) → BodyRan s n kind at r → IsBytes s
    → Stands s at
    ((list_bytes (numbers_of s r.positive.atoms) ++ list_bytes (numbers_of s r.negated.atoms))
    ++ (numbers_bytes (numbers_of s r.positive.weights) ++ numbers_bytes (numbers_of s r.negated.weights)))
    r.next
body_bytes_law s n kind at r b is =
    joined (joined (b.positive.bytes is) (b.negated.bytes is))
    (joined (b.above.bytes is) (stands_to (sym b.next_is) (b.below.bytes is)))

-- where the kind has no weights, its lists are all of its bytes
pub plain_bytes :
    (s : List ℕ) (n : ℕ) (kind : SheetKind) (at : ℕ) (r : SheetRule) → ((count : ℕ) → weights_due kind count ≡ 0) → BodyRan s n kind at r → IsBytes s
    → Stands s at (list_bytes (numbers_of s r.positive.atoms) ++ list_bytes (numbers_of s r.negated.atoms)) r.next
unfolding numbers_from flat_map
plain_bytes s n kind at r plain b is =
    let v : r.positive.weights.value ≡ 0 = b.above.value ∙ plain r.positive.atoms.value in
    let w : r.negated.weights.value ≡ 0 = b.below.value ∙ plain r.negated.atoms.value in
    let lists : List ℕ = list_bytes (numbers_of s r.positive.atoms) ++ list_bytes (numbers_of s r.negated.atoms) in
    stands_as
    (ap₂
    (λ (j k : ℕ). lists
    ++ (numbers_bytes (numbers_from j s r.positive.weights.first) ++ numbers_bytes (numbers_from k s r.negated.weights.first)))
    v
    w
    ∙ append-nil lists)
    (body_bytes_law s n kind at r b is)

-- how far a body reaches
pub body_far :
    (s : List ℕ) (n : ℕ) (kind : SheetKind) (at : ℕ) (r : SheetRule) → BodyRan s n kind at r
    → at + 2 + (length (numbers_of s r.positive.atoms) + length (numbers_of s r.negated.atoms)) ≤ r.next
body_far s n kind at r b =
    omega (
      arith,
      b.positive.far,
      b.positive.count,
      b.negated.far,
      b.negated.count,
      b.above.far,
      b.below.far,
      b.next_is,
    )
