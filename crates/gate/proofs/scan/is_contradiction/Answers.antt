-- `is_contradiction` meets its contract: of at least one byte, the scan for 3s ends past the last.
use borrow.Author.Tests.{lt-ltb, le-ltb}
use Rattle.gate.specs.Scan.{is_contradiction}
use Rattle.gate.proofs.scan.is_contradiction.Goals as goal

pub returns-then-n-gt0 : goal.returns-then-n-gt0
unfolding is_contradiction
returns-then-n-gt0 c = simp (lt-ltb _ _ c.if-n-gt0.true, c.first_fault.ensures)

pub returns-else-n-gt0 : goal.returns-else-n-gt0
unfolding is_contradiction
returns-else-n-gt0 c = simp (le-ltb _ _ c.if-n-gt0.false)
