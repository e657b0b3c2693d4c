-- "A map is closed when none of these adds anything. An atom forced both ways is a contradiction."
-- What a step that works on a map's bytes promises. What it adds holds in every good map above the one that it started from; for
-- the four forcing rules a good map is a closed one.
use Rattle.std.specs.Prelude.{ℕ, ◌≤◌, ◌<◌, ◌-◌, ◌≡◌, Bool, true, false, List, length, get_or, set, Result, Ok, Err}
use Rattle.rules.specs.Inner.Bytes.{MapBytes}
use Rattle.rules.specs.Map.{Map, side, ◌⊑◌, undecided}
use Rattle.weigh.specs.declared.Clash.{Clash}

-- M' holds M, and no more than every good map above M holds
pub record Forces (Good : Map → Type 0) (M M' : Map) : Type 0 where
  pub keeps : M ⊑ M'
  pub sound : (X : Map) → Good X → M ⊑ X → M' ⊑ X

-- no good map is above M
pub record Clashes (Good : Map → Type 0) (M : Map) : Type 0 where
  pub none : (X : Map) → Good X → M ⊑ X → ⊥

-- every good map above M has this atom on this side
pub record Concludes (Good : Map → Type 0) (M : Map) (a v : ℕ) : Type 0 where
  pub forced : (X : Map) → Good X → M ⊑ X → X a ≡ v

-- the bytes are still a map, as many, and those past n as they were
pub record Kept (n : ℕ) (m m' : List ℕ) : Type 0 where
  pub proper : MapBytes n m'
  pub long : length m' ≡ length m
  pub past : (i : ℕ) → n ≤ i → get_or m' i 0 ≡ get_or m i 0

-- what is added is forced, and something is
pub record Grown (Good : Map → Type 0) (n : ℕ) (m m' : List ℕ) : Type 0 where
  pub forces : Forces Good (side n m) (side n m')
  pub fewer : undecided n m' < undecided n m

-- what a step says: no good map is above; or whether it added something
abbrev pub Outcome : Type 0
Outcome = Result Bool Clash

-- a step found no good map; or nothing to add, and the map is quiet; or it added something
abbrev pub Went : (Map → Type 0) → ℕ → (Map → Type 0) → List ℕ → List ℕ → Outcome → Type 0
Went Good n Quiet m m' (Err _) = Clashes Good (side n m)
Went Good n Quiet m m' (Ok false) = (m' ≡ m) × Quiet (side n m)
Went Good n Quiet m m' (Ok true) = Grown Good n m m'

pub record Step (Good : Map → Type 0) (n : ℕ) (Quiet : Map → Type 0) (m m' : List ℕ) (r : Outcome) : Type 0 where
  pub kept : Kept n m m'
  pub went : Went Good n Quiet m m' r

-- an atom is put on a side: it was on the other, or there, or undecided
abbrev pub Put : ℕ → List ℕ → ℕ → ℕ → List ℕ → Outcome → Type 0
Put n m a v m' (Err _) = (m' ≡ m) × ((side n m a ≡ v → ⊥) × (side n m a ≡ 0 → ⊥))
Put n m a v m' (Ok false) = (m' ≡ m) × (side n m a ≡ v)
Put n m a v m' (Ok true) = (m' ≡ set m (a - 1) v) × (side n m a ≡ 0)

pub record Puts (n : ℕ) (m : List ℕ) (a v : ℕ) (m' : List ℕ) (r : Outcome) : Type 0 where
  pub put : Put n m a v m' r

-- a test of a map at every place from one to before another
abbrev pub Till : (ℕ → Map → Type 0) → ℕ → ℕ → Map → Type 0
Till Q from to M = (k : ℕ) → from ≤ k → k < to → Q k M

-- one of the two sides
pub record Decided (v : ℕ) : Type 0 where
  pub low : 1 ≤ v
  pub high : v ≤ 2
