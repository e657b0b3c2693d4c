-- `read_atoms` meets its contract: the atoms of one byte are passed first. The loop's invariant: the run of the atoms that are left, from here on, is the whole answer.
use mathlib.Core.Path.{◌∙◌, ap}
use native.Mathlib.Omega.{arith}
use Rattle.std.specs.Prelude.{Ok}
use Rattle.numbers.proofs.lists.Laws.{turn, turn_out, turned}
use Rattle.numbers.proofs.lists.read_atoms.Goals as goal

pub returns-in_default : goal.returns-in_default
returns-in_default c =
    let l = c.loop in
    turn_out _ _ l.counter l.above _ l.invariant.1 c.loop-test.true
    c.read_atom-got.ensures _ c.in_default.is

pub loop-preserved : goal.loop-preserved
loop-preserved c =
    let l = c.loop in (
      omega arith,
      turn _ _ l.counter l.above _ l.invariant.1 c.loop-test.true
          c.read_atom-got.ensures _ c.in-Ok.is,
    )

pub returns : goal.returns
returns c =
    let l = c.loop in
    ap Ok c.new.ensures
    ∙ turned _ _ l.counter l.above _ l.invariant.1 c.loop-test.false
