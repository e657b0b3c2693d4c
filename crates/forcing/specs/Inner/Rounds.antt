-- "A map is closed when none of these adds anything." "the map becomes the smallest closed map holding the old map"
use Rattle.std.specs.Prelude.{ℕ, ◌<◌, ◌≡◌, List, get_or, Option, Some, None, Result, Ok, Err}
use Rattle.rules.specs.Rule.{Within}
use Rattle.rules.specs.Map.{Map, side, ◌⊑◌, undecided}
use Rattle.rules.specs.Forcing.{Closed, Founded, Least, Contradiction}
use Rattle.table.specs.Inner.Rows.{row_rule, table_rules}
use Rattle.weigh.specs.Inner.Step.{Kept, Outcome, Step, Till}
use Rattle.forcing.specs.Inner.Support.{Backed}
use Rattle.weigh.specs.declared.Clash.{Clash}

-- none of the first k bytes is v
abbrev pub NoneWith : ℕ → ℕ → List ℕ → Type 0
NoneWith v k m = (i : ℕ) → i < k → get_or m i 0 ≡ v → ⊥

-- the first byte that is v, of n, has this index
pub record FirstAt (v n : ℕ) (m : List ℕ) (i : ℕ) : Type 0 where
  pub inside : i < n
  pub lower : NoneWith v i m
  pub here : get_or m i 0 ≡ v

-- the index of the first of n bytes that is v, or there is none
abbrev pub FirstWith : ℕ → ℕ → List ℕ → Option ℕ → Type 0
FirstWith v n m None = NoneWith v n m
FirstWith v n m (Some i) = FirstAt v n m i

-- that of the lowest undecided atom
abbrev pub LowestAt : ℕ → List ℕ → Option ℕ → Type 0
LowestAt n m i = FirstWith 0 n m i

-- a step of the forcing rules on a table
abbrev pub Forcing : List ℕ → ℕ → ℕ → (Map → Type 0) → List ℕ → List ℕ → Outcome → Type 0
Forcing c n count Quiet m m' r = Step (Closed (table_rules c count) n) n Quiet m m' r

-- forcing rule 2 has nothing to add
abbrev pub BackedAll : List ℕ → ℕ → Map → Type 0
BackedAll c count = Till (λ k. Backed (table_rules c count) (row_rule c k)) 0 count

-- forcing rule 4 has nothing to add
abbrev pub FoundedAll : List ℕ → ℕ → ℕ → Map → Type 0
FoundedAll c n count M = (a : ℕ) → Within n a → (M a ≡ 2 → ⊥) → Founded (table_rules c count) M a

-- the smallest closed map that holds the old one, with its number of undecided atoms; or no closed map holds it
abbrev pub ClosedAs : List ℕ → ℕ → ℕ → List ℕ → List ℕ → Result ℕ Clash → Type 0
ClosedAs c n count m m' (Err _) = Contradiction (Closed (table_rules c count) n) (λ X. side n m ⊑ X)
ClosedAs c n count m m' (Ok k) =
    Least (Closed (table_rules c count) n) (λ X. side n m ⊑ X) (side n m') × (k ≡ undecided n m')

pub record ClosesMap (c : List ℕ) (n count : ℕ) (m m' : List ℕ) (r : Result ℕ Clash) : Type 0 where
  pub kept : Kept n m m'
  pub answers : ClosedAs c n count m m' r
