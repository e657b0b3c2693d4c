-- The map handed over: n bytes of 3 are what the promise says, and are the lent map itself where it was a contradiction.
use Prim.Native.Nat.{ℕ, ◌≤◌, ◌<◌}
use mathlib.Core.Path.{◌≡◌, refl, sym, ◌∙◌}
use mathlib.Core.List.{List}
use lib.ListN.{length, get_or, replicate, length-replicate, get_or-replicate}
use Rattle.rules.specs.Map.{Written}
use Rattle.rules.proofs.Bytes.{written_equal}
use Rattle.task.proofs.bytes.Laws.{laid_byte, laid_written}
use Rattle.desk.specs.Promise.{threes}

-- n bytes of 3
pub threes_are : (n : ℕ) (m : List ℕ) (i : ℕ) → i < n → get_or (threes n m) i 0 ≡ 3
threes_are n m i h = laid_byte n (replicate n 3) m (length-replicate {A = ℕ} n 3) i h ∙ get_or-replicate n i 3 0 h

pub threes_written : (n : ℕ) (m : List ℕ) → n ≤ length m → Written n m (threes n m)
threes_written n m room = laid_written n (replicate n 3) m (length-replicate {A = ℕ} n 3) room

-- a map of 3s stays as it was
pub threes_stay : (n : ℕ) (m : List ℕ) → n ≤ length m → ((i : ℕ) → i < n → get_or m i 0 ≡ 3) → m ≡ threes n m
threes_stay n m room all =
    written_equal n m m (threes n m) (record { long = refl; past = refl }) (threes_written n m room)
    (λ i h. all i h ∙ sym (threes_are n m i h))
