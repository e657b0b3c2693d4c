-- A run of numbers that was read has just the bytes that are written for its numbers, and what is written for numbers is read as those
-- numbers; each stands in the run's relation to the one before it. Both are stated once, for any step that reads one number.
use Prim.Native.Nat.{ℕ, zero, suc, ◌+◌, ◌≤◌}
use mathlib.Core.Path.{◌≡◌, refl, sym, ap, subst, ◌∙◌}
use mathlib.Core.List.{List, ◌∷◌, ◌++◌, flat_map, append_assoc}
use native.Mathlib.Omega.{arith}
use lib.ListN.{length, drop, length-append}
use lib.Dec.{leb}
use borrow.Author.Tests.{leb-false, lt-leb}
use Rattle.std.specs.Prelude.{ok_or, Result, Ok, Err}
use Rattle.rules.specs.Limits.{number_most}
use Rattle.rules.specs.Rule.{Within}
use Rattle.rules.specs.Number.{checked_atom}
use Rattle.rules.specs.Sum.{pick}
use Rattle.rules.specs.declared.Atom.{Atom}
use Rattle.rules.proofs.Inside.{atom_is, atom_made}
use Rattle.numbers.specs.Answer.{refusal, read_then, span}
use Rattle.numbers.specs.Number.{number_at}
use Rattle.numbers.specs.Lists.{atom_at, in_turn, up_to, numbers_from}
use Rattle.numbers.specs.Shown.Encode.{number_bytes, numbers_bytes, IsBytes, Linked, none, more, Rises}
use Rattle.numbers.specs.declared.reason.Reason.TheVariants.{NoAtom}
use Rattle.numbers.specs.declared.Span.{Span}
use Rattle.numbers.specs.declared.Refusal.{Refusal}
use Rattle.numbers.proofs.Answer.{from_read, from_no, ok_some, not_ok, same_ok}
use Rattle.numbers.proofs.Stands.{Stands, nothing, joined, stands_as}
use Rattle.numbers.proofs.number.Most.{number_far}
use Rattle.numbers.proofs.number.Encoded.{number_bytes_law, number_read, past}
use Rattle.numbers.proofs.lists.Numbers.{numbers_more}

-- what a run that was read has read
pub record Ran (Q : ℕ → ℕ → Type 0) (s : List ℕ) (left before at next : ℕ) : Type 0 where
  pub linked : Linked Q before (numbers_from left s at)
  pub far : at + left ≤ next
  pub ends : at ≤ length s → next ≤ length s
  pub bytes : IsBytes s → Stands s at (numbers_bytes (numbers_from left s at)) next

module _
    (s : List ℕ)
    (Q : ℕ → ℕ → Type 0)
    (step : ℕ → ℕ → Result Span Refusal)
    (sound : (before at : ℕ) (one : Span) → step before at ≡ Ok one → (number_at s at ≡ Ok one) × Q before one.value)
  where
    pub ran :
        (left before : ℕ) (done p : Span) → in_turn step left before done ≡ Ok p → Ran Q s left before done.next p.next
    unfolding in_turn numbers_from flat_map
    ran zero before done p e =
        let n : done.next ≡ p.next = ap (λ (q : Span). q.next) (same_ok e) in
        record { linked = none; far = omega arith; ends = λ h. omega arith; bytes = λ is. nothing done.next p.next n }
    ran (suc left) before done p e =
        let g = from_read Err _ (step before done.next) not_ok e in
        let one = g.0 in
        let h = sound before done.next one g.1 in
        let r = ran left one.value (up_to done one.next) p g.2 in
        let m = numbers_more s left done.next one h.0 in
        record {
          linked = subst (λ (xs : List ℕ). Linked Q before xs) (sym m) (more h.1 r.linked);
          far = omega (arith, number_far s done.next one h.0, r.far);
          ends = λ _. r.ends (number_far s done.next one h.0).1;
          bytes = λ is.
              stands_as (ap (λ (xs : List ℕ). numbers_bytes xs) (sym m))
              (joined (number_bytes_law s is done.next one h.0) (r.bytes is));
        }

module _
    (s : List ℕ)
    (Q : ℕ → ℕ → Type 0)
    (small : (before x : ℕ) → Q before x → x ≤ number_most)
  where
    pub numbers_read :
        {before : ℕ} {xs : List ℕ} → Linked Q before xs → (at : ℕ) (q : List ℕ) → drop at s ≡ numbers_bytes xs ++ q
        → numbers_from (length xs) s at ≡ xs
    unfolding numbers_from flat_map
    numbers_read none at q d = refl
    numbers_read (more {before = before} {x = x} {xs = xs} h l) at q d =
        let d' : drop at s ≡ number_bytes x ++ (numbers_bytes xs ++ q) = d ∙ append_assoc (number_bytes x) (numbers_bytes xs) q in
        numbers_more s (length xs) at (span x at (at + length (number_bytes x)))
        (number_read s at x (numbers_bytes xs ++ q) (small before x h) d')
        ∙ ap (λ (ys : List ℕ). x ∷ ys)
        (numbers_read l (at + length (number_bytes x)) q (past s (number_bytes x) (numbers_bytes xs ++ q) at d'))

    module _
        (step : ℕ → ℕ → Result Span Refusal)
        (complete :
        (before at x : ℕ) → Q before x → number_at s at ≡ Ok (span x at (at + length (number_bytes x)))
        → step before at ≡ Ok (span x at (at + length (number_bytes x))))
      where
        pub written :
            {before : ℕ} {xs : List ℕ} → Linked Q before xs → (done : Span) (q : List ℕ) → drop done.next s ≡ numbers_bytes xs ++ q
            → in_turn step (length xs) before done ≡ Ok (up_to done (done.next + length (numbers_bytes xs)))
        unfolding in_turn flat_map read_then
        written none done q d =
            let z : done.next ≡ done.next + 0 = omega arith in
            ap (λ (k : ℕ). Ok (up_to done k)) z
        written (more {before = before} {x = x} {xs = xs} h l) done q d =
            let d' : drop done.next s ≡ number_bytes x ++ (numbers_bytes xs ++ q) =
            d ∙ append_assoc (number_bytes x) (numbers_bytes xs) q in
            let next : ℕ = done.next + length (number_bytes x) in
            let z : next + length (numbers_bytes xs) ≡ done.next + length (number_bytes x ++ numbers_bytes xs) =
            omega (arith, length-append (number_bytes x) (numbers_bytes xs)) in
            ap (λ (a : Result Span Refusal). read_then Err a (λ one. in_turn step (length xs) one.value (up_to done one.next)))
            (complete before done.next x h (number_read s done.next x (numbers_bytes xs ++ q) (small before x h) d'))
            ∙ written l (up_to done next) q (past s (number_bytes x) (numbers_bytes xs ++ q) done.next d')
            ∙ ap (λ (k : ℕ). Ok (up_to done k)) z

-- an atom is a number of 1 to n, above the one before it
module _ (s : List ℕ) (n : ℕ) where
  pub atom_sound :
      (before at : ℕ) (one : Span) → atom_at s n before at ≡ Ok one → (number_at s at ≡ Ok one) × Rises n before one.value
  unfolding atom_at
  atom_sound before at one e =
      let g = from_read Err _ (number_at s at) not_ok e in
      let a = from_read Err _ (ok_or (checked_atom n g.0.value) (refusal NoAtom at)) not_ok g.2 in
      let l = from_no (leb a.0.number before) _ _ (not_ok _) a.2 in
      let v : g.0 ≡ one = same_ok l.1 in
      let w : g.0.value ≡ one.value = ap (λ (q : Span). q.value) v in
      let i = atom_is n g.0.value a.0 (ok_some _ _ a.1) in (
        g.1 ∙ ap (λ (q : Span). Ok q) v,
        record {
          within = subst (λ (x : ℕ). Within n x) w i.0;
          above = omega (arith, leb-false a.0.number before l.0, ap (λ (x : Atom). x.number) i.1);
        },
      )

  pub atom_complete :
      (before at x : ℕ) → Rises n before x → number_at s at ≡ Ok (span x at (at + length (number_bytes x)))
      → atom_at s n before at ≡ Ok (span x at (at + length (number_bytes x)))
  unfolding atom_at read_then pick
  atom_complete before at x h e = simp (e, atom_made n x h.within, lt-leb x before h.above)
