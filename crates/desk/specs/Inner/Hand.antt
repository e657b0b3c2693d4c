-- How the map that was worked on is handed over: its first n bytes, or n bytes of 3; the bytes past them stay as they were.
use Rattle.std.specs.Prelude.{ℕ, ◌≡◌, List, Option, Some, None}
use Rattle.std.specs.Option.{ForSome}
use Rattle.rules.specs.Inner.Bytes.{Room}
use Rattle.task.specs.Inner.Copy.{first_bytes}
use Rattle.task.specs.declared.closed.ClosedMap.{ClosedMap}
use Rattle.desk.specs.Promise.{threes}

pub record HandAsks (n : ℕ) (closed : Option ClosedMap) (m : List ℕ) : Type 0 where
  pub lent : Room n m
  pub worked : ForSome closed (λ x. Room n x.map)

abbrev pub Handed : ℕ → Option ClosedMap → List ℕ → List ℕ → Option ℕ → Type 0
Handed n (Some x) m m' r = (r ≡ Some x.undecided) × (m' ≡ first_bytes n x.map m)
Handed n None m m' r = (r ≡ None) × (m' ≡ threes n m)

pub record Hands (n : ℕ) (closed : Option ClosedMap) (m m' : List ℕ) (r : Option ℕ) : Type 0 where
  pub handed : Handed n closed m m' r
