-- The line of an answer holds what solve answers: no sheet has more atoms than a line names.
use Prim.Native.Nat.{ℕ, ◌≤◌, min, zero-le}
use mathlib.Core.Path.{◌≡◌, refl, ◌∙◌, ap, subst}
use mathlib.Core.List.{List}
use native.Mathlib.Nat.{min-eq_left}
use Rattle.std.specs.Prelude.{Result, Ok, Err}
use Rattle.rules.specs.Limits.{atoms_most}
use Rattle.rules.specs.Map.{blank}
use Rattle.numbers.specs.Answer.{read_then}
use Rattle.numbers.specs.declared.Refusal.{Refusal}
use Rattle.sheet.specs.Sheet.{sheet_read}
use Rattle.sheet.specs.Meaning.{sheet_meant}
use Rattle.sheet.specs.declared.Outline.{Outline}
use Rattle.sheet.proofs.sheet.Ran.{sheet_ran}
use Rattle.desk.specs.Promise.{Searched, Solves}
use Rattle.desk.specs.declared.Solved.TheVariants.{Model}
use Rattle.text.specs.Line.{ArrayString, model_line, Spells}
use Rattle.solve.specs.Answer.{atoms_in, line_of, Prints}

-- a sheet has no more atoms than a line names
few : (s : List ℕ) → atoms_in s ≤ atoms_most
unfolding atoms_in read_then sheet_meant
few s = by (sheet_read s) refl
  where
    by : (r : Result Outline Refusal) → sheet_read s ≡ r → read_then {A = ℕ} (λ why. 0) r (λ sheet. sheet.atoms) ≤ atoms_most
    by (Err why) e = zero-le
    by (Ok o) e = (sheet_ran s o e).well_formed.atoms

pub answered :
    (s : List ℕ) {m : List ℕ} {line : ArrayString} {r r' : Searched} → r ≡ r' → Solves s blank m r
    → Spells line (line_of r' (atoms_in s) m) → Prints s line
answered s {m} {r' = r'} e p h =
    record { answer = r'; map = m; solves = subst (Solves s blank m) e p; holds = h }

pub model_answered :
    (s : List ℕ) {m : List ℕ} {line : ArrayString} {n : ℕ} {r : Searched} → r ≡ Ok Model → Solves s blank m r
    → n ≡ atoms_in s → Spells line (model_line (min n atoms_most) m) → Prints s line
model_answered s {m} e p q h =
    answered s e p
    (h ∙ ap (λ (k : ℕ). model_line k m) (ap (λ (k : ℕ). min k atoms_most) q ∙ min-eq_left (few s)))
