-- `first_fault` meets its contract. The loop's invariant: what is left of the scan, from here on, is the whole answer.
use mathlib.Core.Path.{sym, ◌∙◌, ap}
use native.Mathlib.Nat.{sub-zero}
use native.Mathlib.Omega.{arith}
use borrow.Author.Rules.{rules}
use Rattle.gate.specs.Scan.{between, first_fault}
use Rattle.gate.proofs.scan.Laws.{scan_on, scan_here, scan_over}
use Rattle.gate.proofs.scan.first_fault.Goals as goal

pub loop-i-init : goal.loop-i-init
unfolding first_fault
loop-i-init c = (search rules, simp sub-zero)

pub loop-i-preserved : goal.loop-i-preserved
loop-i-preserved c =
    let a = c.args in (
      omega arith,
      sym
          (scan_on (between a.low a.high) a.m.now a.n c.loop-i.i c.if-n-i.false
          (ap (between a.low a.high) (sym c.byte_at.ensures) ∙ sym c.is_between.ensures ∙ c.if-is_between.true))
          ∙ c.loop-i.invariant.1,
    )

pub returns-then-n-i : goal.returns-then-n-i
returns-then-n-i c =
    let a = c.args in
    omega (
      arith,
      c.loop-i.invariant.0,
      c.if-n-i.true,
      scan_over (between a.low a.high) a.m.now a.n c.loop-i.i c.if-n-i.true,
      c.loop-i.invariant.1,
    )

pub returns-else-is_between : goal.returns-else-is_between
returns-else-is_between c =
    let a = c.args in
    sym
    (scan_here (between a.low a.high) a.m.now a.n c.loop-i.i c.if-n-i.false
    (ap (between a.low a.high) (sym c.byte_at.ensures) ∙ sym c.is_between.ensures ∙ c.if-is_between.false))
    ∙ c.loop-i.invariant.1
