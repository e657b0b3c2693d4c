-- What an accepted sheet says, in the words of crate rules: "atom count n; the rules; the compute-in list; the compute-out list".
use Rattle.std.specs.Prelude.{ℕ, zero, suc, List, [], ◌∷◌}
use Rattle.rules.specs.Rule.{Rule, Sheet}
use Rattle.numbers.specs.Answer.{read_then}
use Rattle.numbers.specs.Lists.{numbers_of}
use Rattle.numbers.specs.declared.Refusal.{Refusal}
use Rattle.sheet.specs.RuleMeaning.{rule_meant}
use Rattle.sheet.specs.Rule.{rule_at}
use Rattle.sheet.specs.Sheet.{sheet_read}
use Rattle.sheet.specs.declared.Outline.{Outline}

-- so many rules from a place on, as far as there are rules
unfoldable pub rules_from : ℕ → List ℕ → ℕ → ℕ → List Rule
rules_from zero s n at = []
rules_from (suc left) s n at = read_then (λ why. []) (rule_at s n at) (λ r. rule_meant s r ∷ rules_from left s n r.next)

-- what an accepted sheet says
unfoldable pub sheet_meant : List ℕ → Outline → Sheet
sheet_meant s sheet =
    record {
      atoms = sheet.atoms;
      rules = rules_from sheet.rules.value s sheet.atoms sheet.rules.first;
      compute_in = numbers_of s sheet.ins;
      compute_out = numbers_of s sheet.outs;
    }

pub data Reading : Type 0 where
  accepted : Sheet → Reading
  refused : Refusal → Reading

-- the meaning of any bytes
unfoldable pub sheet_of : List ℕ → Reading
sheet_of s = read_then refused (sheet_read s) (λ sheet. accepted (sheet_meant s sheet))
