-- A number that was read has just the bytes that are written for it, and what is written for a number is read as that number. Both go
-- group by group: the low group is the remainder by 128, and the rest of the number is the quotient.
use Prim.Native.Nat.{ℕ, zero, suc, ◌+◌, ◌*◌, ◌/◌, ◌^◌, ◌%◌, ◌≤◌, ◌<◌}
use mathlib.Core.Path.{◌≡◌, refl, sym, ap, subst, ◌∙◌}
use mathlib.Core.Bool.{Bool, true, false, ◌&&◌}
use mathlib.Core.List.{List, ◌∷◌, ◌++◌}
use native.Mathlib.Omega.{arith}
use native.Mathlib.Numerals.{add-one}
use native.Mathlib.Nat.{pow-suc}
use lib.ListN.{length, get_or, drop, length-drop}
use lib.Seq.{drop-cons, drop-drop, get_or-drop, drop-append_seam}
use lib.Dec.{ltb, eqb}
use borrow.Author.Tests.{lt-ltb, le-ltb, ltb-true, ltb-false, eqb-false, ne_eqb}
use Rattle.std.specs.Prelude.{Result, Ok}
use Rattle.rules.specs.Limits.{number_most}
use Rattle.rules.specs.Sum.{pick}
use Rattle.numbers.specs.Answer.{read_then, span}
use Rattle.numbers.specs.Number.{groups_from, number_at}
use Rattle.numbers.specs.Shown.Encode.{groups_of, number_bytes, IsBytes}
use Rattle.numbers.specs.declared.Refusal.{Refusal}
use Rattle.numbers.specs.declared.Span.{Span}
use Rattle.numbers.proofs.Answer.{not_ok}
use Rattle.numbers.proofs.Stands.{Stands}
use Rattle.numbers.proofs.number.Most.{Groups, last, more, groups}

-- a group after the first is no needless one, so what it is a part of is 1 at least
groups_some :
    (s : List ℕ) (left first at : ℕ) (p : Span) → groups_from left s first at ≡ Ok p → first < at → 1 ≤ p.value
unfolding groups_from
groups_some s zero first at p e h = absurd (not_ok _ e)
groups_some s (suc left) first at p e h =
    by (groups s left first at p e) (λ high z. groups_some s left first (at + 1) high z (omega arith))
  where
    by :
        Groups s left first at p → ((high : Span) → groups_from left s first (at + 1) ≡ Ok high → 1 ≤ high.value)
        → 1 ≤ p.value
    by (last l b z w) some =
        let v : get_or s at 0 ≡ p.value = ap (λ (q : Span). q.value) w in
        let n : eqb (get_or s at 0) 0 ≡ false = simp (lt-ltb first at h) at z in
        omega (arith, eqb-false (get_or s at 0) 0 n)
    by (more l b high z w) some =
        let v : get_or s at 0 % 128 + 128 * high.value ≡ p.value = ap (λ (q : Span). q.value) w in
        omega (arith, some high z)

-- the low group and the rest
module _ (low high : ℕ) (l : low < 128) where
  low_is : (low + 128 * high) % 128 ≡ low
  low_is = omega arith

  high_is : (low + 128 * high) / 128 ≡ high
  high_is = omega arith

groups_bytes :
    (s : List ℕ) → IsBytes s → (left first at : ℕ) (p : Span) → groups_from left s first at ≡ Ok p → first ≤ at
    → drop at s ≡ groups_of left p.value ++ drop p.next s
unfolding groups_from groups_of pick
groups_bytes s is zero first at p e h = absurd (not_ok _ e)
groups_bytes s is (suc left) first at p e h =
    by (groups s left first at p e) (λ high z. groups_bytes s is left first (at + 1) high z (omega arith))
  where
    by :
        Groups s left first at p
        → ((high : Span) → groups_from left s first (at + 1) ≡ Ok high
        → drop (at + 1) s ≡ groups_of left high.value ++ drop high.next s)
        → drop at s ≡ groups_of (suc left) p.value ++ drop p.next s
    by (last l b z w) rest =
        subst (λ (q : Span). drop at s ≡ groups_of (suc left) q.value ++ drop q.next s) w
        (simp (lt-ltb (get_or s at 0) 128 b, add-one) (drop-cons s at 0 l))
    by (more l b high z w) rest =
        let v : ℕ = get_or s at 0 % 128 + 128 * high.value in
        let some : 1 ≤ high.value = groups_some s left first (at + 1) high z (omega arith) in
        let wide : ltb v 128 ≡ false = le-ltb v 128 (omega arith) in
        let low : 128 + v % 128 ≡ get_or s at 0 =
        omega (arith, low_is (get_or s at 0 % 128) high.value (omega arith), is.byte at) in
        let up : v / 128 ≡ high.value = high_is (get_or s at 0 % 128) high.value (omega arith) in
        subst (λ (q : Span). drop at s ≡ groups_of (suc left) q.value ++ drop q.next s) w
        (simp (wide, low, up) (rw (← rest high z, add-one) (drop-cons s at 0 l)))

pub number_bytes_law :
    (s : List ℕ) → IsBytes s → (at : ℕ) (p : Span) → number_at s at ≡ Ok p → Stands s at (number_bytes p.value) p.next
unfolding number_at number_bytes
number_bytes_law s is at p e = record { is = groups_bytes s is 4 at at p e (omega arith) }

-- what is read at a place where a byte stands
module _ (s : List ℕ) (at b : ℕ) (q : List ℕ) (d : drop at s ≡ b ∷ q) where
  pub byte_there : at < length s
  byte_there = omega (arith, ap length d, length-drop at s)

  pub byte_is : get_or s at 0 ≡ b
  byte_is =
      let z : at ≡ at + 0 = omega arith in
      ap (λ (k : ℕ). get_or s k 0) z ∙ sym (get_or-drop at s 0 0) ∙ ap (λ (l : List ℕ). get_or l 0 0) d

  pub byte_past : drop (at + 1) s ≡ q
  byte_past = sym (drop-drop 1 at s) ∙ ap (λ (l : List ℕ). drop 1 l) d

-- past what is written at a place stands the rest
pub past : (s bytes q : List ℕ) (at : ℕ) → drop at s ≡ bytes ++ q → drop (at + length bytes) s ≡ q
past s bytes q at d = sym (drop-drop (length bytes) at s) ∙ ap (λ (l : List ℕ). drop (length bytes) l) d ∙ drop-append_seam bytes q

not_needless : (first at v : ℕ) → (first < at → 1 ≤ v) → (ltb first at && eqb v 0) ≡ false
not_needless first at v some = by (ltb first at) refl
  where
    by : (b : Bool) → ltb first at ≡ b → (b && eqb v 0) ≡ false
    by true h =
        let n : 1 ≤ v = some (ltb-true first at h) in
        ne_eqb v 0 (λ (z : v ≡ 0). omega arith)
    by false h = refl

regrouped : (v : ℕ) → (128 + v % 128) % 128 + 128 * (v / 128) ≡ v
regrouped v = omega arith

same_number : (first a b c d : ℕ) → a ≡ b → c ≡ d → ◌≡◌ {A = Result Span Refusal} (Ok (span a first c)) (Ok (span b first d))
same_number first a b c d e f = cc

read_last :
    (s : List ℕ) (left first at v : ℕ) (q : List ℕ) → v < 128 → (first < at → 1 ≤ v) → drop at s ≡ groups_of (suc left) v ++ q
    → groups_from (suc left) s first at ≡ Ok (span v first (at + length (groups_of (suc left) v)))
unfolding groups_from groups_of pick
read_last s left first at v q small some d =
    let yes' : ltb v 128 ≡ true = lt-ltb v 128 small in
    let d' : drop at s ≡ v ∷ q = simp yes' at d in
    simp (lt-ltb at (length s) (byte_there s at v q d'), byte_is s at v q d', yes', not_needless first at v some)

read_more :
    (s : List ℕ) (left first at v : ℕ) (q : List ℕ) → 128 ≤ v → drop at s ≡ groups_of (suc left) v ++ q
    → (drop (at + 1) s ≡ groups_of left (v / 128) ++ q
    → groups_from left s first (at + 1) ≡ Ok (span (v / 128) first (at + 1 + length (groups_of left (v / 128)))))
    → groups_from (suc left) s first at ≡ Ok (span v first (at + length (groups_of (suc left) v)))
unfolding groups_from groups_of pick read_then
read_more s left first at v q wide d rest =
    let no' : ltb v 128 ≡ false = le-ltb v 128 wide in
    let d' : drop at s ≡ (128 + v % 128) ∷ (groups_of left (v / 128) ++ q) = simp no' at d in
    simp (
      lt-ltb at (length s) (byte_there s at (128 + v % 128) _ d'),
      byte_is s at (128 + v % 128) _ d',
      le-ltb (128 + v % 128) 128 (omega arith),
      no',
      rest (byte_past s at (128 + v % 128) _ d'),
    )
    (same_number first _ _ _ _ (regrouped v) (omega arith))

groups_read :
    (s : List ℕ) (left first at v : ℕ) (q : List ℕ) → v < 128 ^ suc left → first ≤ at → (first < at → 1 ≤ v)
    → drop at s ≡ groups_of (suc left) v ++ q
    → groups_from (suc left) s first at ≡ Ok (span v first (at + length (groups_of (suc left) v)))
groups_read s zero first at v q m o some d = read_last s zero first at v q m some d
groups_read s (suc left) first at v q m o some d =
    by (ltb v 128) refl (λ t e. groups_read s left first (at + 1) (v / 128) q t (omega arith) (λ z. e))
  where
    by :
        (b : Bool) → ltb v 128 ≡ b
        → (v / 128 < 128 ^ suc left → 1 ≤ v / 128 → drop (at + 1) s ≡ groups_of (suc left) (v / 128) ++ q
        → groups_from (suc left) s first (at + 1) ≡ Ok (span (v / 128) first (at + 1 + length (groups_of (suc left) (v / 128)))))
        → groups_from (suc (suc left)) s first at ≡ Ok (span v first (at + length (groups_of (suc (suc left)) v)))
    by true b rest = read_last s (suc left) first at v q (ltb-true v 128 b) some d
    by false b rest = read_more s (suc left) first at v q (ltb-false v 128 b) d (rest (omega (arith, pow-suc 128 (suc left))) (omega (arith, ltb-false v 128 b)))

pub number_read :
    (s : List ℕ) (at v : ℕ) (q : List ℕ) → v ≤ number_most → drop at s ≡ number_bytes v ++ q
    → number_at s at ≡ Ok (span v at (at + length (number_bytes v)))
unfolding number_at number_bytes number_most
number_read s at v q m d = groups_read s 3 at at v q (omega arith) (omega arith) (λ z. omega arith) d
