-- The tempting mistakes, as facts: a set that satisfies every rule need not be stable, a closed map need not have a model, a choice
-- rule forces none of its heads, and an atom with two rules that can still give it forces nothing in their bodies.
use mathlib.Core.Path.{subst}
use mathlib.Core.Bool.{false, true}
use mathlib.Core.List.Memᴰ
use mathlib.Core.List.{List, [], ◌∷◌}
use native.Mathlib.Omega.{arith}
use lib.Dec.{T}
use Rattle.rules.specs.Sum.{tally, has}
use Rattle.rules.specs.Rule.{Rule, basic_rule, choice_rule}
use Rattle.rules.specs.Stable.{Set, Gives, Contains, Stable, NoModel, value}
use Rattle.rules.specs.Map.{side, signed}
use Rattle.rules.specs.Forcing.{Closed}
use Rattle.rules.specs.Shown.Paper.{those}
use Rattle.rules.specs.Shown.Cases.{WorkedCase, Proved, bytes, nothing, sheet}
use Rattle.rules.proofs.Fixpoint.{grow}
use Rattle.rules.proofs.Closing.{closing}
use Rattle.rules.proofs.Opening.{opening, taking}
use Rattle.rules.proofs.Searching.{solving, searching, lowest}
use Rattle.rules.proofs.Cases.{case_proved}

-- the sheet 1 ← 1
abbrev own_reason : List Rule
own_reason = basic_rule 1 (1 ∷ []) [] ∷ []

abbrev just_one : Set
just_one a = has a (1 ∷ [])

-- {1} satisfies 1 ← 1
pub satisfied : Contains own_reason just_one just_one
satisfied r m a g = subst (λ (q : Rule). T (has a q.heads)) (Memᴰ.eq_of_singleton m) g.head

-- and is not stable
pub not_stable : Stable own_reason just_one → ⊥
unfolding value tally has
not_stable st = st.smallest (λ _. false) empty 1 tt
  where
    empty : Contains own_reason just_one (λ _. false)
    empty r m a g =
        let g' : Gives (basic_rule 1 (1 ∷ []) []) just_one (λ _. false) a = subst (λ (q : Rule). Gives q just_one (λ _. false) a) (Memᴰ.eq_of_singleton m) g in
        omega (arith, g'.holds)

-- 1 ← not 1
abbrev its_denial : WorkedCase
its_denial = record { sheet = sheet 1 (basic_rule 1 [] (1 ∷ []) ∷ []); pins = []; map = bytes (0 ∷ []); model = nothing }

denial : Proved its_denial
unfolding tally has value side those grow closing taking opening lowest searching solving
denial = case_proved its_denial tt

-- it has a closed map and no model
pub closed_no_model : Closed its_denial.sheet.rules 1 (side 1 (0 ∷ [])) × NoModel its_denial.sheet
closed_no_model = (denial.map.closed, denial.model)

-- choice {1}: nothing is forced
abbrev may_be_taken : WorkedCase
may_be_taken = record { sheet = sheet 1 (choice_rule (1 ∷ []) [] [] ∷ []); pins = []; map = bytes (0 ∷ []); model = bytes (1 ∷ []) }

taken : Proved may_be_taken
unfolding tally has value side those grow closing taking opening lowest searching solving
taken = case_proved may_be_taken tt

pub choice_forces_none : Closed may_be_taken.sheet.rules 1 (side 1 (0 ∷ []))
choice_forces_none = taken.map.closed

-- choice {2, 3}; 1 ← 2; 1 ← 3; pin 1 in: either rule can still give 1, so neither 2 nor 3 is forced
abbrev two_rules : WorkedCase
two_rules =
    record {
      sheet = sheet 3 (choice_rule (2 ∷ 3 ∷ []) [] [] ∷ basic_rule 1 (2 ∷ []) [] ∷ basic_rule 1 (3 ∷ []) [] ∷ []);
      pins = signed true 1 ∷ [];
      map = bytes (1 ∷ 0 ∷ 0 ∷ []);
      model = bytes (1 ∷ 1 ∷ 1 ∷ []);
    }

two : Proved two_rules
unfolding tally has value side those grow closing taking opening lowest searching solving
two = case_proved two_rules tt

pub two_force_none : Closed two_rules.sheet.rules 3 (side 3 (1 ∷ 0 ∷ 0 ∷ []))
two_force_none = two.map.closed
