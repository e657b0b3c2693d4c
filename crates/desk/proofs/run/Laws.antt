-- The table that comes of a sheet, on which a call's work is done: a blank one has room for the sheet, and once decoded it holds the
-- sheet's rules, and the row of the rule at an index that rule.
use Prim.Native.Nat.{ℕ, ◌-◌, ◌≤◌, ◌<◌}
use mathlib.Core.Path.{◌≡◌, sym, ◌∙◌, ap₂, subst}
use mathlib.Core.List.{List}
use mathlib.Core.Logic.{⊎_elim}
use native.Mathlib.Omega.{arith}
use lib.ListN.{length, replicate}
use Rattle.std.specs.Prelude.{Ok}
use Rattle.rules.specs.Limits.{bytes_most}
use Rattle.rules.specs.Rule.{Shuffled}
use Rattle.rules.proofs.Tests.{below?}
use Rattle.sheet.specs.Sheet.{sheet_read}
use Rattle.sheet.specs.Meaning.{sheet_meant}
use Rattle.sheet.specs.declared.Outline.{Outline}
use Rattle.sheet.proofs.sheet.Ran.{sheet_ran}
use Rattle.table.specs.Inner.Words.{pair_width}
use Rattle.table.specs.Inner.Rows.{row_rule, table_sheet}
use Rattle.decode.specs.Inner.Decode.{table_words, Decodable, Decoded}
use Rattle.decode.specs.declared.Contents.{Contents}
use Rattle.weigh.proofs.Bytes.{blank_room}
use Rattle.desk.specs.Inner.Run.{Stands}

-- a blank table for sheets of so many bytes
pub words_ready : {s : List ℕ} {o : Outline} {words : ℕ} → sheet_read s ≡ Ok o → table_words (length s) ≤ words → Decodable s o (replicate words 0)
words_ready {s} {o} {words} e h = record { accepted = e; room = blank_room words (table_words (length s)) h }

module _ (s : List ℕ) (o : Outline) (e : sheet_read s ≡ Ok o) where
  pub short_sheet : length s ≤ bytes_most
  short_sheet = (sheet_ran s o e).short

  pub few_words : (most : ℕ) → length s ≤ most → table_words (length s) ≤ table_words most
  unfolding table_words pair_width
  few_words most h = omega (arith, h)

module _ {s : List ℕ} {o : Outline} {wanted : ℕ} {c c' : List ℕ} {table : Contents} (d : Decoded s o wanted c c' table) where
  -- the row is one of the table's
  pub row_there : wanted ≤ o.rules.value - 1 → table.row ≤ table.rules
  row_there h =
      ⊎_elim
      (λ (few : wanted < o.rules.value). let z = (d.row few).low in omega (arith, z))
      (λ (many : o.rules.value ≤ wanted). omega (arith, d.row_most, h, many))
      (below? wanted o.rules.value)

  -- of a table and a row whose words, atoms and place were handed over
  pub stands :
      {words e : List ℕ} {n count k at : ℕ} → words ≡ c' → n ≡ o.atoms → count ≡ table.rules → e ≡ words → k ≡ n → at ≡ table.row
      → Stands s o wanted words n count e k at
  stands {words} {e} {n} {count} {k} {at} same atoms rules row_words row_atoms place =
      record {
        atoms = atoms;
        sheet =
            subst
            (λ (x : List ℕ). Shuffled (table_sheet x n count) (sheet_meant s o))
            (sym same)
            (subst
            (λ (x : ℕ). Shuffled (table_sheet c' x count) (sheet_meant s o))
            (sym atoms)
            (subst (λ (x : ℕ). Shuffled (table_sheet c' o.atoms x) (sheet_meant s o)) (sym rules) d.sheet));
        row_atoms = row_atoms ∙ atoms;
        row = λ h. ap₂ row_rule (row_words ∙ same) place ∙ (d.row h).same;
      }
