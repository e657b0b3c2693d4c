-- An accepted sheet has one meaning and one form. All of it follows from what reading it has read, part by part.
use Prim.Native.Nat.{ℕ, ◌≤◌}
use mathlib.Core.Path.{◌≡◌, refl, sym, ap, subst, ◌∙◌}
use mathlib.Core.List.{List, Memᴰ}
use native.Mathlib.Omega.{arith}
use lib.ListN.{length}
use Rattle.std.specs.Prelude.{Result, Ok, Err}
use Rattle.rules.specs.Limits.{bytes_most}
use Rattle.rules.specs.Rule.{Rule, Sheet}
use Rattle.rules.specs.Stable.{Dead}
use Rattle.rules.proofs.Fits.{Numbered}
use Rattle.numbers.specs.Shown.Encode.{IsBytes}
use Rattle.numbers.specs.Answer.{read_then}
use Rattle.numbers.specs.declared.Refusal.{Refusal}
use Rattle.sheet.specs.Sheet.{sheet_read}
use Rattle.sheet.specs.Meaning.{accepted, refused, sheet_meant, sheet_of}
use Rattle.sheet.specs.Shown.Encode.{encode, AllLiving, WellFormed}
use Rattle.sheet.specs.declared.Outline.{Outline}
use Rattle.sheet.proofs.sheet.Ran.{SheetRan, sheet_ran}
use Rattle.sheet.proofs.sheet.Written.{sheet_written}
use Rattle.sheet.proofs.Fits.{formed_numbered}

-- a meaning came of an accepted check
pub outlined : (s : List ℕ) (sh : Sheet) → sheet_of s ≡ accepted sh → (o : Outline) × (sheet_read s ≡ Ok o) × (sheet_meant s o ≡ sh)
unfolding sheet_of read_then
outlined s sh e = by (sheet_read s) refl e
  where
    by :
        (c : Result Outline Refusal) → sheet_read s ≡ c → read_then refused c (λ o. accepted (sheet_meant s o)) ≡ accepted sh
        → (o : Outline) × (sheet_read s ≡ Ok o) × (sheet_meant s o ≡ sh)
    by (Ok o) h z = (o, h, cc)
    by (Err why) h z = let w : ◌≡◌ {A = ℕ} 0 1 = cc in absurd (omega arith)

module _ (s : List ℕ) (sh : Sheet) (e : sheet_of s ≡ accepted sh) where
  ran : (o : Outline) × SheetRan s o × (sheet_meant s o ≡ sh)
  ran = let o = outlined s sh e in (o.0, sheet_ran s o.0 o.1, o.2)

  -- an accepted sheet's counts, lists and weights are within the limits
  pub well_formed_law : WellFormed sh
  well_formed_law = subst (λ (t : Sheet). WellFormed t) ran.2 ran.1.well_formed

  -- every atom that it names is one of its n
  pub numbered : Numbered sh
  numbered = formed_numbered sh well_formed_law

  -- every bound of it is at most the sum of its rule's weights
  pub bounds_met : AllLiving sh.rules
  bounds_met = well_formed_law.living

  -- so a sheet with a dead bound is not accepted
  pub dead_bound_not_accepted : (r : Rule) → Memᴰ r sh.rules → Dead r → ⊥
  dead_bound_not_accepted r among dead = omega (arith, bounds_met r among)

  pub short : length s ≤ bytes_most
  short = ran.1.short

  -- it is the encoding of what it means
  pub encoded : IsBytes s → s ≡ encode sh
  encoded is = ran.1.bytes is ∙ ap encode ran.2

-- two accepted sheets with equal meaning are equal bytes
pub one_form : (s t : List ℕ) (sh : Sheet) → IsBytes s → IsBytes t → sheet_of s ≡ accepted sh → sheet_of t ≡ accepted sh → s ≡ t
one_form s t sh hs ht e f = encoded s sh e hs ∙ sym (encoded t sh f ht)

-- what `encode` writes of a sheet within the limits is accepted and means that sheet
pub accepts : (sh : Sheet) → WellFormed sh → length (encode sh) ≤ bytes_most → sheet_of (encode sh) ≡ accepted sh
accepts sh w l = sheet_written (encode sh) sh w refl l
