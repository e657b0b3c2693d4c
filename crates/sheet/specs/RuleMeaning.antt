-- What a rule that was read says, in the words of crate rules: its kind, its heads, its need, and its literals, each with its weight.
use Rattle.std.specs.Prelude.{ℕ, List, [], ◌∷◌}
use Rattle.rules.specs.Rule.{Rule, Weighted, basic_rule, constraint_rule, choice_rule, weight_rule}
use Rattle.numbers.specs.Lists.{numbers_of}
use Rattle.sheet.specs.declared.SheetKind.{SheetKind}
use Rattle.sheet.specs.declared.SheetKind.TheVariants.{Basic, Constraint, Choice, Weight}
use Rattle.sheet.specs.declared.Literals.{Literals}
use Rattle.sheet.specs.declared.SheetRule.{SheetRule}

-- each atom with the weight at its place
unfoldable pub paired : List ℕ → List ℕ → List Weighted
paired [] ws = []
paired (x ∷ xs) [] = []
paired (x ∷ xs) (w ∷ ws) = record { atom = x; weight = w } ∷ paired xs ws

abbrev pub paired_in : List ℕ → Literals → List Weighted
paired_in s literals = paired (numbers_of s literals.atoms) (numbers_of s literals.weights)

abbrev pub rule_by : List ℕ → SheetKind → Literals → Literals → Rule
rule_by s (Basic head) positive negated =
    basic_rule head.number (numbers_of s positive.atoms) (numbers_of s negated.atoms)
rule_by s (Constraint head bound) positive negated =
    constraint_rule head.number bound (numbers_of s positive.atoms) (numbers_of s negated.atoms)
rule_by s (Choice heads) positive negated =
    choice_rule (numbers_of s heads) (numbers_of s positive.atoms) (numbers_of s negated.atoms)
rule_by s (Weight head bound) positive negated = weight_rule head.number bound (paired_in s positive) (paired_in s negated)

-- what a rule that was read says
unfoldable pub rule_meant : List ℕ → SheetRule → Rule
rule_meant s r = rule_by s r.kind r.positive r.negated
