-- `place` meets its contract: its test is that of `place_of`.
use Prim.Native.Nat.{ℕ, ◌≤◌, ◌<◌}
use mathlib.Core.Path.{subst}
use borrow.Author.Tests.{lt-ltb, le-ltb}
use Rattle.rules.specs.Sum.{pick}
use Rattle.table.specs.Inner.Words.{place_of}
use Rattle.table.proofs.parts.place.Goals as goal

pub returns-then-k-count : goal.returns-then-k-count
unfolding place_of pick
returns-then-k-count c = simp (lt-ltb _ _ (subst (λ (x : ℕ). c.args.k < x) c.count.ensures c.if-k-count.true))

pub returns-else-k-count : goal.returns-else-k-count
unfolding place_of pick
returns-else-k-count c = simp (le-ltb _ _ (subst (λ (x : ℕ). x ≤ c.args.k) c.count.ensures c.if-k-count.false))
