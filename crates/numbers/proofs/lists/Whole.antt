-- A list that was read is strictly increasing, within 1 to n and as long as its count says, and has just the bytes that are written for
-- it; and what is written for such a list is read as that list. Both put the count before the run of the atoms.
use Prim.Native.Nat.{ℕ, ◌+◌, ◌≤◌}
use mathlib.Core.Path.{◌≡◌, sym, ap, ap₂, subst, ◌∙◌}
use mathlib.Core.List.{List, ◌++◌, append_assoc}
use native.Mathlib.Omega.{arith}
use lib.ListN.{length, drop, length-append}
use borrow.Author.Tests.{le-ltb}
use Rattle.std.specs.Prelude.{Result, Ok, Err}
use Rattle.rules.specs.Limits.{number_most}
use Rattle.rules.specs.Sum.{pick}
use Rattle.numbers.specs.Answer.{read_then, span}
use Rattle.numbers.specs.Number.{number_at, within_at}
use Rattle.numbers.specs.Lists.{atom_at, in_turn, list_at, numbers_from, numbers_of}
use Rattle.numbers.specs.Shown.Encode.{number_bytes, numbers_bytes, list_bytes, IsBytes, Linked, none, more, Rises, Rising}
use Rattle.numbers.specs.declared.Span.{Span}
use Rattle.numbers.specs.declared.Refusal.{Refusal}
use Rattle.numbers.proofs.lists.Numbers.{numbers_count}
use Rattle.numbers.proofs.Stands.{Stands, joined, stands_as}
use Rattle.numbers.proofs.number.Most.{number_far}
use Rattle.numbers.proofs.number.Encoded.{number_bytes_law, number_read, past}
use Rattle.numbers.proofs.lists.Most.{listed}
use Rattle.numbers.proofs.lists.Encoded.{ran, numbers_read, written, atom_sound, atom_complete}

pub record ListRan (s : List ℕ) (least n at : ℕ) (p : Span) : Type 0 where
  pub rising : Rising n (numbers_of s p)
  pub count : length (numbers_of s p) ≡ p.value
  pub low : least ≤ p.value
  pub high : p.value ≤ n
  pub far : at + 1 + p.value ≤ p.next
  pub ends : p.next ≤ length s
  pub bytes : IsBytes s → Stands s at (list_bytes (numbers_of s p)) p.next

pub list_ran : (s : List ℕ) (least n at : ℕ) (p : Span) → list_at s least n at ≡ Ok p → ListRan s least n at p
list_ran s least n at p e =
    let l = listed s least n at p e in
    let c = l.count in
    let v : c.value ≡ p.value = sym l.value in
    let r = ran s (Rises n) (atom_at s n) (atom_sound s n) c.value 0 (span c.value c.next c.next) p l.ran in
    let same : numbers_from c.value s c.next ≡ numbers_of s p =
    ap₂ (λ (k f : ℕ). numbers_from k s f) v (sym l.first) in
    let size : length (numbers_of s p) ≡ p.value = numbers_count s p.value p.first in
    record {
      rising = subst (λ (xs : List ℕ). Rising n xs) same r.linked;
      count = size;
      low = omega (arith, l.counted.low);
      high = omega (arith, l.counted.high);
      far = omega (arith, r.far, number_far s at c l.counted.number);
      ends = r.ends (number_far s at c l.counted.number).1;
      bytes = λ is.
          stands_as (ap₂ (λ (k : ℕ) (xs : List ℕ). number_bytes k ++ numbers_bytes xs) (v ∙ sym size) same)
          (joined (number_bytes_law s is at c l.counted.number) (r.bytes is));
    }

-- atoms that rise stay within n, so there are at most n of them
pub rising_few : (n : ℕ) {before : ℕ} {xs : List ℕ} → Linked (Rises n) before xs → before ≤ n → before + length xs ≤ n
rising_few n none h = omega arith
rising_few n (more {x = x} a l) h =
    let w = a.within.high in
    omega (arith, a.above, rising_few n l w)

pub within_read :
    (s : List ℕ) (least most at : ℕ) (p : Span) → number_at s at ≡ Ok p → least ≤ p.value → p.value ≤ most
    → within_at s least most at ≡ Ok p
unfolding within_at read_then pick
within_read s least most at p e l h = simp (e, le-ltb p.value least l, le-ltb most p.value h)

-- where a list is written: its count, the place of its first atom, and the place after it
abbrev pub list_span : ℕ → List ℕ → Span
list_span at xs = span (length xs) (at + length (number_bytes (length xs))) (at + length (list_bytes xs))

module _
    (s : List ℕ)
    (least n at : ℕ)
    (xs q : List ℕ)
    (m : n ≤ number_most)
    (rising : Rising n xs)
    (d : drop at s ≡ list_bytes xs ++ q)
  where
    few : length xs ≤ n
    few = omega (arith, rising_few n rising (omega arith))

    small : (before x : ℕ) → Rises n before x → x ≤ number_most
    small before x a = omega (arith, a.within.high)

    split : drop at s ≡ number_bytes (length xs) ++ (numbers_bytes xs ++ q)
    split = d ∙ append_assoc (number_bytes (length xs)) (numbers_bytes xs) q

    atoms_at : drop (at + length (number_bytes (length xs))) s ≡ numbers_bytes xs ++ q
    atoms_at = past s (number_bytes (length xs)) (numbers_bytes xs ++ q) at split

    pub list_numbers : numbers_of s (list_span at xs) ≡ xs
    list_numbers = numbers_read s (Rises n) small rising (at + length (number_bytes (length xs))) q atoms_at

    pub list_read : least ≤ length xs → list_at s least n at ≡ Ok (list_span at xs)
    unfolding list_at read_then
    list_read l =
        let first : ℕ = at + length (number_bytes (length xs)) in
        let count : Span = span (length xs) at first in
        let z : first + length (numbers_bytes xs) ≡ at + length (list_bytes xs) =
        omega (arith, length-append (number_bytes (length xs)) (numbers_bytes xs)) in
        ap (λ (a : Result Span Refusal). read_then Err a (λ count. in_turn (atom_at s n) count.value 0 (span count.value count.next count.next)))
        (within_read s least n at count (number_read s at (length xs) (numbers_bytes xs ++ q) (omega (arith, few)) split) l few)
        ∙ written s (Rises n) small (atom_at s n) (atom_complete s n) rising (span (length xs) first first) q atoms_at
        ∙ ap (λ (k : ℕ). Ok (span (length xs) first k)) z

    pub list_past_law : drop (at + length (list_bytes xs)) s ≡ q
    list_past_law = past s (list_bytes xs) q at d
