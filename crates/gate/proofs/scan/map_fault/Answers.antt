-- `map_fault` meets its contract: the first byte says which scan it is.
use mathlib.Core.Path.{sym, ◌∙◌}
use borrow.Author.Tests.{eq-eqb, ne_eqb}
use Rattle.numbers.proofs.Answer.{picked, passed}
use Rattle.gate.specs.Scan.{map_fault}
use Rattle.gate.proofs.scan.Maps.{fewest}
use Rattle.gate.proofs.scan.map_fault.Goals as goal

pub returns-then-n-eq0 : goal.returns-then-n-eq0
returns-then-n-eq0 c = fewest _ _ c.if-n-eq0.true

pub returns-then-byte_at-eq3 : goal.returns-then-byte_at-eq3
unfolding map_fault
returns-then-byte_at-eq3 c = picked _ _ _ _ _ (eq-eqb _ _ (sym c.byte_at.ensures ∙ c.if-byte_at-eq3.true)) c.first_fault.ensures

pub returns : goal.returns
unfolding map_fault
returns c = passed _ _ _ _ _ (ne_eqb _ _ (λ e. c.if-byte_at-eq3.false (c.byte_at.ensures ∙ e))) c.first_fault-2.ensures
