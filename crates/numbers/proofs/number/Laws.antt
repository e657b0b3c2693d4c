-- The groups of a number, read low group first into a sum: what is left of the number counts by the scale that has been reached.
use Prim.Native.Nat.{ℕ, suc, ◌+◌, ◌-◌, ◌*◌, ◌^◌, ◌%◌, ◌≤◌, ◌<◌}
use mathlib.Core.Path.{◌≡◌, refl, ap, subst, ◌∙◌, sym}
use mathlib.Core.List.{List}
use native.Mathlib.Omega.{arith}
use native.Mathlib.Nat.{mul_assoc, mul_comm, add-mul, mul-le-mul_left, mul-le-mul_right, pow-le-pow_right, le_trans, pow-suc, mod-eq_of_lt}
use native.Mathlib.Numerals.{add-one}
use lib.ListN.{length, get_or}
use lib.Dec.{lit<}
use borrow.Author.Tests.{lt-ltb, le-ltb, ne_eqb}
use Rattle.std.specs.Prelude.{Result, Ok, Err}
use Rattle.rules.specs.Sum.{pick}
use Rattle.numbers.specs.Answer.{read_then, span, refusal}
use Rattle.numbers.specs.Number.{groups_from, number_at, higher, taken_from, taken_at}
use Rattle.numbers.specs.declared.reason.Reason.TheVariants.{EndsEarly, NotShortest, FourthByte}
use Rattle.numbers.specs.declared.Span.{Span}
use Rattle.numbers.specs.declared.Refusal.{Refusal}
use Rattle.numbers.proofs.Answer.{one_left}

-- a number whose groups before these make up the sum
abbrev pub raised : ℕ → ℕ → Span → Span
raised sum scale p = span (sum + p.value * scale) p.first p.next

unfoldable pub scaled : ℕ → ℕ → Result Span Refusal → Result Span Refusal
scaled sum scale (Ok p) = Ok (raised sum scale p)
scaled sum scale (Err why) = Err why

raised_once : (p : Span) → raised 0 1 p ≡ p
raised_once p = ap (λ (v : ℕ). span v p.first p.next) (omega arith)

scaled_once : (a : Result Span Refusal) → scaled 0 1 a ≡ a
unfolding scaled
scaled_once (Ok p) = ap (λ (q : Span). Ok q) (raised_once p)
scaled_once (Err why) = refl

raised_more : (sum scale low : ℕ) (p : Span) → raised sum scale (higher low p) ≡ raised (sum + low * scale) (scale * 128) p
raised_more sum scale low p = ap (λ (v : ℕ). span v p.first p.next) (regroup p.value)
  where
    regroup : (v : ℕ) → sum + (low + 128 * v) * scale ≡ sum + low * scale + v * (scale * 128)
    regroup v =
        let e : (low + 128 * v) * scale ≡ low * scale + 128 * v * scale = add-mul low (128 * v) scale in
        let f : 128 * v * scale ≡ v * (scale * 128) = mul_assoc 128 v scale ∙ mul_comm 128 (v * scale) ∙ mul_assoc v scale 128 in
        omega arith

scaled_more :
    (sum scale low : ℕ) (a : Result Span Refusal)
    → scaled sum scale (read_then Err a (λ high. Ok (higher low high))) ≡ scaled (sum + low * scale) (scale * 128) a
unfolding scaled read_then
scaled_more sum scale low (Ok p) = ap (λ (q : Span). Ok q) (raised_more sum scale low p)
scaled_more sum scale low (Err why) = refl

-- how far the scale and the sum can grow in four groups
pub scale_most : (k scale : ℕ) → k < 4 → scale ≤ 128 ^ k → scale ≤ 128 ^ 3
scale_most k scale h w = le_trans w (pow-le-pow_right {n = 128} (lit< tt) {i = k} {j = 3} (omega arith))

pub group_most : (k scale group : ℕ) → k < 4 → scale ≤ 128 ^ k → group < 128 → group * scale ≤ 127 * 128 ^ 3
group_most k scale group h w g =
    le_trans (mul-le-mul_right {m = group} {n = 127} scale (omega arith)) (mul-le-mul_left 127 (scale_most k scale h w))

pub sum_grows : (sum scale group : ℕ) → sum < scale → group < 128 → sum + group * scale < scale * 128
sum_grows sum scale group h g =
    let m : group * scale ≤ 127 * scale = mul-le-mul_right {m = group} {n = 127} scale (omega arith) in
    omega arith

pub scale_grows : (k scale : ℕ) → scale ≤ 128 ^ k → scale * 128 ≤ 128 ^ (k + 1)
scale_grows k scale w = rw (add-one, pow-suc) (mul-le-mul_right 128 w)

module _ (s : List ℕ) (k first at sum scale : ℕ) where
  unfoldable pub here : Result Span Refusal
  here = scaled sum scale (groups_from (4 - k) s first at)

  opened : k < 4 → here ≡ scaled sum scale (groups_from (suc (4 - (k + 1))) s first at)
  unfolding here
  opened h = ap (λ (left : ℕ). scaled sum scale (groups_from left s first at)) (one_left 4 k h)

  pub ended : k < 4 → length s ≤ at → Err (refusal EndsEarly (length s)) ≡ here
  unfolding scaled groups_from pick
  ended h e = simp (opened h, le-ltb _ _ e)

  module _ (h : k < 4) (l : at < length s) (group : ℕ) (g : group ≡ get_or s at 0) where
    pub needless : first < at → group ≡ 0 → Err (refusal NotShortest first) ≡ here
    unfolding scaled groups_from pick
    needless f z =
        let e : get_or s at 0 ≡ 0 = sym g ∙ z in
        simp (opened h, lt-ltb _ _ l, e, lt-ltb _ _ f)

    pub last : first < at → group < 128 → (group ≡ 0 → ⊥) → Ok (span (sum + group % 128 * scale) first (at + 1)) ≡ here
    unfolding scaled groups_from pick
    last f b z = simp (opened h, lt-ltb _ _ l, ← g, lt-ltb _ _ b, lt-ltb _ _ f, ne_eqb _ _ z, mod-eq_of_lt b)

    pub more : 128 ≤ group → scaled (sum + group % 128 * scale) (scale * 128) (groups_from (4 - (k + 1)) s first (at + 1)) ≡ here
    unfolding groups_from pick
    more b = simp (opened h, lt-ltb _ _ l, ← g, le-ltb _ _ b, scaled_more)

-- before the first group, and after it where more follow
pub start : (s : List ℕ) (first : ℕ) → here s 0 first first 0 1 ≡ number_at s first
unfolding here number_at
start s first = scaled_once _

low_group : (byte : ℕ) → 128 ≤ byte → byte < 256 → byte - 128 ≡ 0 + byte % 128 * 1
low_group byte b w = omega arith

pub started :
    (s : List ℕ) (first byte : ℕ) → first < length s → byte ≡ get_or s first 0 → 128 ≤ byte → byte < 256
    → here s 1 first (first + 1) (byte - 128) 128 ≡ number_at s first
unfolding here
started s first byte l g b w =
    ap (λ (sum : ℕ). scaled sum 128 (groups_from 3 s first (first + 1))) (low_group byte b w)
    ∙ more s 0 first first 0 1 (omega arith) l byte g b
    ∙ start s first

pub spent : (s : List ℕ) (k first at sum scale : ℕ) → 4 ≤ k → Err (refusal FourthByte first) ≡ here s k first at sum scale
unfolding here scaled groups_from
spent s k first at sum scale h =
    let e : 0 ≡ 4 - k = omega arith in
    ap (λ (left : ℕ). scaled sum scale (groups_from left s first at)) e

-- how far the loop has come: its scale is at most 128 for each group that was passed, and what is left is the number
pub record Come (s : List ℕ) (first k at sum scale : ℕ) : Type 0 where
  pub most : scale ≤ 128 ^ k
  pub left : here s k first at sum scale ≡ number_at s first

pub come : {s : List ℕ} {first k j at sum scale : ℕ} → k ≡ j → Come s first k at sum scale → Come s first j at sum scale
come {s} {first} {at = at} {sum} {scale} e a = subst (λ (i : ℕ). Come s first i at sum scale) e a

-- the same of a number that is taken without a test
raised_none : (sum scale first at : ℕ) → span sum first at ≡ raised sum scale (span 0 first at)
raised_none sum scale first at = ap (λ (v : ℕ). span v first at) (omega arith)

module _ (s : List ℕ) (k first at sum scale : ℕ) where
  unfoldable pub taken : Span
  taken = raised sum scale (taken_from (4 - k) s first at)

  taken_opened : k < 4 → taken ≡ raised sum scale (taken_from (suc (4 - (k + 1))) s first at)
  unfolding taken
  taken_opened h = ap (λ (left : ℕ). raised sum scale (taken_from left s first at)) (one_left 4 k h)

  pub taken_ended : k < 4 → length s ≤ at → span sum first at ≡ taken
  unfolding taken_from pick
  taken_ended h e = simp (taken_opened h, le-ltb _ _ e) (raised_none sum scale first at)

  module _ (h : k < 4) (l : at < length s) (group : ℕ) (g : group ≡ get_or s at 0) where
    pub taken_last : group < 128 → span (sum + group % 128 * scale) first (at + 1) ≡ taken
    unfolding taken_from pick
    taken_last b = simp (taken_opened h, lt-ltb _ _ l, ← g, lt-ltb _ _ b, mod-eq_of_lt b)

    taken_more : 128 ≤ group → raised (sum + group % 128 * scale) (scale * 128) (taken_from (4 - (k + 1)) s first (at + 1)) ≡ taken
    unfolding taken_from pick
    taken_more b =
        simp (taken_opened h, lt-ltb _ _ l, ← g, le-ltb _ _ b)
        (sym (raised_more sum scale (group % 128) (taken_from (4 - (k + 1)) s first (at + 1))))

pub taken_start : (s : List ℕ) (first : ℕ) → taken s 0 first first 0 1 ≡ taken_at s first
unfolding taken taken_at
taken_start s first = raised_once _

pub taken_started :
    (s : List ℕ) (first byte : ℕ) → first < length s → byte ≡ get_or s first 0 → 128 ≤ byte → byte < 256
    → taken s 1 first (first + 1) (byte - 128) 128 ≡ taken_at s first
unfolding taken
taken_started s first byte l g b w =
    ap (λ (sum : ℕ). raised sum 128 (taken_from 3 s first (first + 1))) (low_group byte b w)
    ∙ taken_more s 0 first first 0 1 (omega arith) l byte g b
    ∙ taken_start s first

-- a group that is not the last leads on to the next
pub taken_on :
    (s : List ℕ) (k first at sum scale : ℕ) → taken s k first at sum scale ≡ taken_at s first → k < 4 → at < length s → (group : ℕ)
    → group ≡ get_or s at 0 → 128 ≤ group → taken s (k + 1) first (at + 1) (sum + group % 128 * scale) (scale * 128) ≡ taken_at s first
unfolding taken
taken_on s k first at sum scale e h l group g b = taken_more s k first at sum scale h l group g b ∙ e

pub taken_spent : (s : List ℕ) (k first at sum scale : ℕ) → 4 ≤ k → span sum first at ≡ taken s k first at sum scale
unfolding taken taken_from
taken_spent s k first at sum scale h =
    let e : 0 ≡ 4 - k = omega arith in
    raised_none sum scale first at ∙ ap (λ (left : ℕ). raised sum scale (taken_from left s first at)) e
