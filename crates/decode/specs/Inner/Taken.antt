-- "A list is a count (0 to n) and then atoms." "A body is a list of positive atoms and then a list of negated atoms." "A rule is one of
-- four kinds, each with its own head part." What stands at a place of a sheet where it was read before, taken again without a test,
-- and the place after it.
use Rattle.std.specs.Prelude.{ℕ, zero, suc, ◌+◌, Bool, true, false, List, [], ◌∷◌, length}
use Rattle.rules.specs.Sum.{pick}
use Rattle.rules.specs.Rule.{Rule, Weighted, kind_of, chooses, ones}
use Rattle.rules.specs.declared.kind.Kind.{Kind}
use Rattle.rules.specs.declared.kind.Kind.TheVariants.{Basic as basic, Constraint as constraint, Choice as choice, Weight as weight}
use Rattle.numbers.specs.Answer.{span}
use Rattle.numbers.specs.Number.{taken_at}
use Rattle.numbers.specs.Lists.{numbers_from}
use Rattle.numbers.specs.declared.Span.{Span}
use Rattle.sheet.specs.RuleMeaning.{paired}

-- the place after so many numbers
unfoldable pub numbers_past : ℕ → List ℕ → ℕ → ℕ
numbers_past zero s at = at
numbers_past (suc left) s at = numbers_past left s (taken_at s at).next

unfoldable pub list_taken : List ℕ → ℕ → List ℕ
list_taken s at = numbers_from (taken_at s at).value s (taken_at s at).next

unfoldable pub list_past : List ℕ → ℕ → ℕ
list_past s at = numbers_past (taken_at s at).value s (taken_at s at).next

-- these atoms as literals: each with its weight, from a place on, where they are weighed, and else with weight 1
unfoldable pub literals_taken : List ℕ → Bool → List ℕ → ℕ → List Weighted
literals_taken s weighs xs at = pick weighs (paired xs (numbers_from (length xs) s at)) (ones xs)

unfoldable pub literals_past : List ℕ → Bool → List ℕ → ℕ → ℕ
literals_past s weighs xs at = pick weighs (numbers_past (length xs) s at) at

pub record Body : Type 0 where
  pub pos : List Weighted
  pub neg : List Weighted
  pub next : ℕ

-- the body of these lists, with its weights from a place on
abbrev pub body_of : List ℕ → Bool → List ℕ → List ℕ → ℕ → Body
body_of s weighs xs ys at =
    record {
      pos = literals_taken s weighs xs at;
      neg = literals_taken s weighs ys (literals_past s weighs xs at);
      next = literals_past s weighs ys (literals_past s weighs xs at);
    }

unfoldable pub body_taken : List ℕ → Bool → ℕ → Body
body_taken s weighs at = body_of s weighs (list_taken s at) (list_taken s (list_past s at)) (list_past s (list_past s at))

abbrev pub body_length : Body → ℕ
body_length body = length body.pos + length body.neg

-- of this kind: its heads, and whether it has a bound and weights
unfoldable pub heads_taken : List ℕ → Kind → ℕ → List ℕ
heads_taken s kind at = pick (chooses kind) (list_taken s at) ((taken_at s at).value ∷ [])

unfoldable pub heads_past : List ℕ → Kind → ℕ → ℕ
heads_past s kind at = pick (chooses kind) (list_past s at) (taken_at s at).next

abbrev pub has_bound : Kind → Bool
has_bound basic = false
has_bound constraint = true
has_bound choice = false
has_bound weight = true

abbrev pub weighs : Kind → Bool
weighs basic = false
weighs constraint = false
weighs choice = false
weighs weight = true

unfoldable pub bound_taken : List ℕ → Kind → ℕ → Span
bound_taken s kind at = pick (has_bound kind) (taken_at s at) (span 0 at at)

unfoldable pub need_taken : Kind → ℕ → ℕ → ℕ
need_taken kind bound length = pick (has_bound kind) bound length

-- the body after a bound, of this kind
abbrev pub rest_taken : List ℕ → Kind → Span → Body
rest_taken s kind bound = body_taken s (weighs kind) bound.next

-- a rule of this kind, with these heads, and with its body after its bound
abbrev pub rule_of : List ℕ → Kind → List ℕ → Span → Rule
rule_of s kind heads bound =
    record {
      kind = kind;
      heads = heads;
      need = need_taken kind bound.value (body_length (rest_taken s kind bound));
      pos = (rest_taken s kind bound).pos;
      neg = (rest_taken s kind bound).neg;
    }

-- the rule at a place: its kind, its bound, and the rule
abbrev pub kind_taken : List ℕ → ℕ → Kind
kind_taken s at = kind_of (taken_at s at).value

unfoldable pub rule_bound : List ℕ → ℕ → Span
rule_bound s at = bound_taken s (kind_taken s at) (heads_past s (kind_taken s at) (taken_at s at).next)

unfoldable pub rule_taken : List ℕ → ℕ → Rule
rule_taken s at = rule_of s (kind_taken s at) (heads_taken s (kind_taken s at) (taken_at s at).next) (rule_bound s at)

unfoldable pub rule_past : List ℕ → ℕ → ℕ
rule_past s at = (rest_taken s (kind_taken s at) (rule_bound s at)).next
