-- Tight: two lines that answer one sheet are equal in every byte, since solve's promise has one answer and one map, and an answer with
-- its map has one line.
use mathlib.Core.Path.{◌≡◌, sym, ap₂, subst}
use mathlib.Core.List.{List}
use Prim.Native.Nat.{ℕ}
use Rattle.rules.specs.Map.{blank}
use Rattle.desk.specs.Promise.{Searched}
use Rattle.desk.proofs.Tight.{solves_tight}
use Rattle.text.specs.Line.{ArrayString, array_string_len, Spells}
use Rattle.text.proofs.Tight.{holds_tight}
use Rattle.solve.specs.Answer.{atoms_in, line_of, Prints}

pub answers_tight :
    (s : List ℕ) (line line' : ArrayString) → Prints s line → Prints s line'
    → (array_string_len line ≡ array_string_len line') × (line.bytes ≡ line'.bytes)
answers_tight s line line' p q =
    let e : (p.answer ≡ q.answer) × (p.map ≡ q.map) = solves_tight s blank p.map q.map p.answer q.answer p.solves q.solves in
    holds_tight line line' (line_of p.answer (atoms_in s) p.map) p.holds
    (subst (Spells line') (sym (ap₂ (λ (a : Searched) (m : List ℕ). line_of a (atoms_in s) m) e.0 e.1)) q.holds)
