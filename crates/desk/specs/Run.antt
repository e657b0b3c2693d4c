-- "Order does not matter: two accepted sheets that differ only in the order of their rules, opened, and given the same set of
-- accepted pins, in any order, with repeats and refused pins between, end in the same map: the smallest consistent set that holds
-- pins and compute lists and is closed under the four forcing rules, or contradiction exactly where there is none."
-- Where a run ends is said by Promise.antt's `Ends`: where one open would that asked for the compute lists and the pins at once.
use Rattle.std.specs.Prelude.{ℕ, ◌≤◌, ◌≡◌, List, [], ◌∷◌, length, eqb, Ok, Err}
use Rattle.rules.specs.Sum.{pick}
use Rattle.rules.specs.Rule.{Sheet}
use Rattle.rules.specs.Map.{Literal, signed}
use Rattle.sheet.specs.Meaning.{accepted, sheet_of}
use Rattle.gate.specs.Gate.{is_pin}
use Rattle.desk.specs.Promise.{Opened, Opens, Pins}

-- a pin as it is asked for: any two numbers
pub record Pin : Type 0 where
  pub atom : ℕ
  pub side : ℕ

-- the pins that refusal 11 lets through, as literals
unfoldable pub accepted_of : ℕ → List Pin → List Literal
accepted_of n [] = []
accepted_of n (p ∷ ps) =
    pick (is_pin n p.atom p.side) (signed (eqb p.side 1) p.atom ∷ accepted_of n ps) (accepted_of n ps)

-- the latest answer that is no refusal
abbrev pub latest : Opened → Opened → Opened
latest r (Ok end) = Ok end
latest r (Err why) = r

-- pin calls one after another, each with its promise: from a map and an answer to a map and the latest answer
pub data PinCalls (s : List ℕ) : List ℕ → Opened → List Pin → List ℕ → Opened → Type 0 where
  done : {m : List ℕ} {r : Opened} → PinCalls s m r [] m r
  next :
      {m m₁ m' : List ℕ} {r r₁ r' : Opened} {p : Pin} {ps : List Pin} → Pins s m p.atom p.side m₁ r₁
      → PinCalls s m₁ (latest r r₁) ps m' r' → PinCalls s m r (p ∷ ps) m' r'

-- an accepted sheet opened on a map that is long enough, and then pinned
pub record Run (s : List ℕ) (sh : Sheet) (ps : List Pin) (m' : List ℕ) (r' : Opened) : Type 0 where
  pub is : sheet_of s ≡ accepted sh
  pub lent : List ℕ
  pub room : sh.atoms ≤ length lent
  pub opened : List ℕ
  pub answer : Opened
  pub opens : Opens s lent opened answer
  pub pins : PinCalls s opened answer ps m' r'
