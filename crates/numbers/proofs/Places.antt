-- A reader that starts within the bytes refuses at a place within them, and what it gets ends within them: it looks at a byte only where
-- there is one, and it refuses at the place where it started or at the bytes' length.
use Prim.Native.Nat.{ℕ, zero, suc, ◌≤◌}
use mathlib.Core.Path.{◌≡◌, refl}
use mathlib.Core.Bool.{Bool, true, false}
use mathlib.Core.List.{List}
use native.Mathlib.Omega.{arith}
use lib.ListN.{length}
use lib.Dec.{ltb, leb}
use Rattle.std.specs.Prelude.{Option, Some, None, ok_or, Result, Ok, Err}
use Rattle.rules.specs.Limits.{highest_refusal}
use Rattle.rules.specs.Number.{checked_atom}
use Rattle.rules.specs.Sum.{pick}
use Rattle.numbers.specs.Answer.{reason_number, refusal, read_then}
use Rattle.numbers.specs.Number.{number_at, within_at}
use Rattle.numbers.specs.Lists.{atom_at, up_to, in_turn, list_at}
use Rattle.numbers.specs.Shown.Refusals.{NumberRefused, ends, padded, large}
use Rattle.numbers.specs.declared.reason.Reason.{Reason}
use Rattle.numbers.specs.declared.reason.Reason.TheVariants.{EndsEarly, NotShortest, NoAtom, NotIncreasing, FourthByte, OutsideLimits}
use Rattle.numbers.specs.declared.Refusal.{Refusal}
use Rattle.numbers.specs.declared.Span.{Span}
use Rattle.numbers.proofs.Reasons.{reason_numbered}
use Rattle.numbers.proofs.number.Most.{number_far}
use Rattle.numbers.proofs.number.Refusals.{refused_why}

-- a refusal of one of the numbers that there are, at a place up to the last
pub record Placed (last : ℕ) (why : Refusal) : Type 0 where
  pub number : reason_number why.reason ≤ highest_refusal
  pub place : why.place ≤ last

pub placed : {last : ℕ} (reason : Reason) (place : ℕ) → place ≤ last → Placed last (refusal reason place)
placed reason place l = record { number = (reason_numbered reason).1; place = l }

-- an answer whose value is as it should be, or a refusal at a place up to the last
pub data Tame {V : Type 0} (last : ℕ) (Good : V → Type 0) : Result V Refusal → Type 0 where
  gets : (v : V) → Good v → Tame last Good (Ok v)
  refuses : (why : Refusal) → Placed last why → Tame last Good (Err why)

-- an answer of a reader that stays within the bytes
abbrev pub TameRead : List ℕ → Result Span Refusal → Type 0
TameRead s a = Tame (length s) (λ (p : Span). p.next ≤ length s) a

-- What is so of both ways of a test is so of the test's answer; and so for a part, an atom, and what comes after them.
pub pick_so : {A : Type 0} (P : A → Type 0) (b : Bool) (x y : A) → (b ≡ true → P x) → (b ≡ false → P y) → P (pick b x y)
unfolding pick
pick_so P true x y yea nay = yea refl
pick_so P false x y yea nay = nay refl

module _ {V W : Type 0} {last : ℕ} {Fine : W → Type 0} where
  pub then_tame :
      {Good : V → Type 0} {a : Result V Refusal} {next : V → Result W Refusal} → Tame last Good a
      → ((v : V) → Good v → Tame last Fine (next v)) → Tame last Fine (read_then Err a next)
  unfolding read_then
  then_tame (gets v l) good = good v l
  then_tame (refuses why w) good = refuses why w

  pub some_tame :
      {next : V → Result W Refusal} {why : Refusal} (o : Option V) → Placed last why → ((v : V) → Tame last Fine (next v))
      → Tame last Fine (read_then Err (ok_or o why) next)
  unfolding read_then
  some_tame (Some v) w good = good v
  some_tame {why = why} None w good = refuses why w

module _ (s : List ℕ) where
  module _ (at : ℕ) (h : at ≤ length s) where
    pub number_tame : TameRead s (number_at s at)
    number_tame = by (number_at s at) refl
      where
        said : (why : Refusal) → NumberRefused s at why → Placed (length s) why
        said why (ends count few runs l) = placed EndsEarly (length s) (omega arith)
        said why (padded count some few runs l o) = placed NotShortest at h
        said why (large runs) = placed FourthByte at h

        by : (a : Result Span Refusal) → number_at s at ≡ a → TameRead s a
        by (Ok p) e = gets p (number_far s at p e).1
        by (Err why) e = refuses why (said why (refused_why s at why e))

    pub within_tame : (least most : ℕ) → TameRead s (within_at s least most at)
    unfolding within_at
    within_tame least most =
        then_tame number_tame
        (λ number k. pick_so (TameRead s) (ltb number.value least) _ _ (λ b. outside)
        (λ b. pick_so (TameRead s) (ltb most number.value) _ _ (λ c. outside) (λ c. gets number k)))
      where
        outside : TameRead s (Err (refusal OutsideLimits at))
        outside = refuses _ (placed OutsideLimits at h)

    atom_tame : (n above : ℕ) → TameRead s (atom_at s n above at)
    unfolding atom_at
    atom_tame n above =
        then_tame number_tame
        (λ number k. some_tame (checked_atom n number.value) (placed NoAtom at h)
        (λ atom. pick_so (TameRead s) (leb atom.number above) _ _
        (λ b. refuses _ (placed NotIncreasing at h))
        (λ b. gets number k)))

  -- a run of steps, each of which stays within the bytes
  pub run_tame :
      (step : ℕ → ℕ → Result Span Refusal) → ((before at : ℕ) → at ≤ length s → TameRead s (step before at)) → (left before : ℕ) (done : Span)
      → done.next ≤ length s → TameRead s (in_turn step left before done)
  unfolding in_turn
  run_tame step tame zero before done h = gets done h
  run_tame step tame (suc left) before done h =
      then_tame (tame before done.next h)
      (λ one k. run_tame step tame left one.value (up_to done one.next) k)

  pub list_tame : (least n at : ℕ) → at ≤ length s → TameRead s (list_at s least n at)
  unfolding list_at
  list_tame least n at h =
      then_tame (within_tame at h least n)
      (λ count k. run_tame (atom_at s n) (λ before at l. atom_tame at l n before) count.value 0 _ k)
