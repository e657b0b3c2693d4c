-- "4. Let U be the smallest set of atoms, none of them out, that holds every head not out of any rule whose reach, with positive
-- atoms counted only if in U, meets its need. Atoms outside U are out."
-- U is gathered in bytes of its own, 1 for an atom of U and 0 for any other: a map, of which every set that holds what U must hold
-- is a good map above.
use Rattle.std.specs.Prelude.{ℕ, ◌≤◌, ◌≡◌, Bool, true, false, Ok, T}
use mathlib.Core.List.{List, Memᴰ}
use Rattle.rules.specs.Sum.{has}
use Rattle.rules.specs.Rule.{Rule, Within}
use Rattle.rules.specs.Stable.{value}
use Rattle.rules.specs.Map.{Map, side, is, isnt}
use Rattle.rules.specs.Forcing.{Closed, Grounds, Founded}
use Rattle.rules.specs.Inner.Bytes.{MapBytes}
use Rattle.table.specs.Inner.Words.{pair_atom}
use Rattle.table.specs.Inner.Rows.{heads_at, row_rule, table_rules}
use Rattle.weigh.specs.Inner.Step.{Concludes, Kept, Outcome, Step, Till, Puts}

-- an atom is put on a side in one map, unless it has a given side in another
pub record PutsUnless (n : ℕ) (m : List ℕ) (a given v : ℕ) (w w' : List ℕ) (r : Outcome) : Type 0 where
  pub there : side n m a ≡ given → (w' ≡ w) × (r ≡ Ok false)
  pub elsewhere : (side n m a ≡ given → ⊥) → Puts n w a v w' r

abbrev pub Unless : Map → ℕ → ℕ → ℕ → Map → Type 0
Unless M a given v W = (M a ≡ given → ⊥) → W a ≡ v

-- a map that stands for a set that holds what U must hold
abbrev pub Grounding : List Rule → Map → Map → Type 0
Grounding P M U = Grounds P M (is 1 U)

-- what the rule gives from U is in U
abbrev pub Grounded : Rule → Map → Map → Type 0
Grounded r M U =
    r.need ≤ value r (is 1 U) (isnt 1 M) → (a : ℕ) → T (has a r.heads) → (M a ≡ 2 → ⊥) → U a ≡ 1

-- every head of the rule that is not out is in U
abbrev pub Full : Rule → Map → Map → Type 0
Full r M U = (a : ℕ) → T (has a r.heads) → (M a ≡ 2 → ⊥) → U a ≡ 1

abbrev pub FullUnless : Rule → Map → Map → Bool → Type 0
FullUnless r M U true = Unit
FullUnless r M U false = Full r M U

pub record Lacks (r : Rule) (M U : Map) (b : Bool) : Type 0 where
  pub tells : FullUnless r M U b

-- the same of one atom
abbrev pub MissesUnless : Map → Map → ℕ → Bool → Type 0
MissesUnless M U a true = Unit
MissesUnless M U a false = Unless M a 2 1 U

pub record Misses (M U : Map) (a : ℕ) (b : Bool) : Type 0 where
  pub tells : MissesUnless M U a b

-- the heads of rule i before pair j are put in U
pub record GroundsHeads (c : List ℕ) (n i : ℕ) (m u : List ℕ) (j : ℕ) (u' : List ℕ) (r : Outcome) : Type 0 where
  pub kept : Kept n u u'
  pub step :
      (P : List Rule)
      → ((a : ℕ) → T (has a (row_rule c i).heads) → (side n m a ≡ 2 → ⊥) → Concludes (Grounding P (side n m)) (side n u) a 1)
      → Step (Grounding P (side n m)) n (Till (λ k. Unless (side n m) (pair_atom c k) 2 1) (heads_at c i) j) u u' r

pub record GroundsRule (c : List ℕ) (n i : ℕ) (m u u' : List ℕ) (r : Outcome) : Type 0 where
  pub kept : Kept n u u'
  pub step :
      (P : List Rule) → Memᴰ (row_rule c i) P
      → Step (Grounding P (side n m)) n (Grounded (row_rule c i) (side n m)) u u' r

abbrev pub GroundsAll : List ℕ → ℕ → ℕ → List ℕ → List ℕ → List ℕ → Outcome → Type 0
GroundsAll c n count m u u' r =
    Step (Grounding (table_rules c count) (side n m)) n (Till (λ k. Grounded (row_rule c k) (side n m)) 0 count) u u' r

-- no atom is in U yet
pub record Blank (n : ℕ) (u : List ℕ) : Type 0 where
  pub proper : MapBytes n u
  pub blank : (a : ℕ) → side n u a ≡ 0

-- the bytes are U: what is listed is founded, and what is listed holds what U must hold
pub record ListsFounded (c : List ℕ) (n count : ℕ) (m u : List ℕ) : Type 0 where
  pub proper : MapBytes n u
  pub listed : (a : ℕ) → side n u a ≡ 1 → Founded (table_rules c count) (side n m) a
  pub grounds : Grounds (table_rules c count) (side n m) (is 1 (side n u))

-- the atoms before a that are not in U are out
pub record Drops (n : ℕ) (u m : List ℕ) (a : ℕ) (m' : List ℕ) (r : Outcome) : Type 0 where
  pub kept : Kept n m m'
  pub step :
      (P : List Rule)
      → ((b : ℕ) → Within n b → (side n u b ≡ 1 → ⊥) → Concludes (Closed P n) (side n m) b 2)
      → Step (Closed P n) n (Till (λ b. Unless (side n u) b 1 2) 1 a) m m' r
