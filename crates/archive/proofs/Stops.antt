-- A promise by its gate: where the call is stopped, its refusal is small; where it goes on, the sheet is within the limits, and the rule
-- that was asked for is one of the sheet's.
use Prim.Native.Nat.{ℕ, ◌-◌}
use mathlib.Core.Path.{◌≡◌, refl}
use mathlib.Core.List.{List, Memᴰ}
use native.Mathlib.Omega.{arith}
use Rattle.std.specs.Prelude.{Result, Ok, Err}
use Rattle.rules.specs.Limits.{bytes_most}
use Rattle.rules.specs.Rule.{Sheet, nth_rule, no_rule, Within}
use Rattle.rules.proofs.Members.{index_mem}
use Rattle.numbers.specs.declared.Refusal.{Refusal}
use Rattle.numbers.proofs.Places.{Placed}
use Rattle.sheet.specs.Sheet.{sheet_read}
use Rattle.sheet.specs.Meaning.{sheet_meant}
use Rattle.sheet.specs.Shown.Encode.{WellFormed}
use Rattle.sheet.specs.declared.Outline.{Outline}
use Rattle.sheet.proofs.sheet.Ran.{sheet_ran}
use Rattle.gate.proofs.Places.{StopsPlaced}
use Rattle.desk.specs.Promise.{Upon}

-- what is so of every sheet with which a gate lets its call go on
abbrev pub Goes : List ℕ → Result Outline Refusal → (Sheet → Type 0) → Type 0
Goes s g Q = (o : Outline) → g ≡ Ok o → Q (sheet_meant s o)

pub upon :
    (Q : Sheet → Type 0) {A : Refusal → Type 0} {B : Sheet → Type 0} {C : Type 0} (s : List ℕ) (g : Result Outline Refusal) → StopsPlaced g
    → Goes s g Q → ((why : Refusal) → Placed bytes_most why → A why → C) → ((sh : Sheet) → Q sh → B sh → C) → Upon s g A B → C
upon Q s (Err why) small goes bad good p = bad why small p
upon Q s (Ok o) small goes bad good p = good (sheet_meant s o) (goes o refl) p

-- the rule that is asked for is one of the sheet's
pub record Asked (k : ℕ) (sh : Sheet) : Type 0 where
  pub within : WellFormed sh
  pub among : Memᴰ (nth_rule sh k) sh.rules

pub within_limits : (s : List ℕ) (o : Outline) → sheet_read s ≡ Ok o → WellFormed (sheet_meant s o)
within_limits s o e = (sheet_ran s o e).well_formed

pub asked : (s : List ℕ) (k : ℕ) (o : Outline) → sheet_read s ≡ Ok o → Within o.rules.value k → Asked k (sheet_meant s o)
asked s k o e w =
    let r = sheet_ran s o e in
    record {
      within = r.well_formed;
      among = index_mem (sheet_meant s o).rules (k - 1) no_rule (omega (arith, r.count, w.low, w.high));
    }
