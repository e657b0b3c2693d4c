-- `copy_atoms` meets its contract. The loop's invariant: what is left of the list, written from here on, is the whole list, ends at the
-- same place and has the same mark.
use Prim.Native.Nat.{ℕ}
use mathlib.Core.Path.{◌∙◌, sym, ap}
use native.Mathlib.Nat.{sub-zero}
use native.Mathlib.Omega.{arith}
use borrow.Author.Rules.{rules}
use Rattle.rules.specs.Limits.{number_most}
use Rattle.rules.specs.Rule.{ones}
use Rattle.numbers.specs.Lists.{numbers_from}
use Rattle.numbers.proofs.lists.Numbers.{numbers_turn, numbers_over}
use Rattle.table.specs.Inner.Words.{pair_width}
use Rattle.repeats.specs.Inner.Marks.{mixed_all}
use Rattle.repeats.proofs.marks.Laws.{mark_turn, mark_done}
use Rattle.decode.proofs.Taken.{number_fits, past_turn, past_over}
use Rattle.decode.proofs.pairs.Copy.{pairs_begin, left_turn, left_done, left_room}
use Rattle.decode.proofs.pairs.copy_atoms.Goals as goal

pub loop-init : goal.loop-init
loop-init c =
    let a = c.args in (
      search rules,
      pairs_begin (simp sub-zero),
      simp sub-zero,
      simp sub-zero (ap (λ (m : ℕ). mixed_all 0 m 0 (numbers_from a.count a.s.now a.from.next)) c.carried.ensures),
    )

pub write_pair-requires : goal.write_pair-requires
unfolding number_most
write_pair-requires c =
    let l = c.loop in
    let a = c.args in
    record {
      room =
          left_room l.invariant.1
          (ap ones
          (numbers_turn a.s.now a.count l.counter l.to.next c.loop-test.true c.take_number-atom.ensures))
          c.requires;
      atom_fits = number_fits a.s.now l.to.next c.take_number-atom.ensures;
      weight_fits = omega arith;
    }

pub overflow_add-to : goal.overflow_add-to
unfolding pair_width
overflow_add-to c =
    let l = c.loop in
    let a = c.args in
    omega (
      arith,
      left_room l.invariant.1
          (ap ones (numbers_turn a.s.now a.count l.counter l.to.next c.loop-test.true c.take_number-atom.ensures))
          c.requires,
    )

pub mixed-requires : goal.mixed-requires
mixed-requires c =
    let l = c.loop in
    let a = c.args in
    number_fits a.s.now l.to.next c.take_number-atom.ensures

pub loop-preserved : goal.loop-preserved
loop-preserved c =
    let l = c.loop in
    let a = c.args in
    let turn = numbers_turn a.s.now a.count l.counter l.to.next c.loop-test.true c.take_number-atom.ensures in (
      omega arith,
      left_turn l.invariant.1 (ap ones turn) c.write_pair.ensures,
      past_turn a.s.now a.count l.counter l.to.next c.loop-test.true c.take_number-atom.ensures
          ∙ l.invariant.2,
      mark_turn 0 l.to.mark 0 turn c.mixed.ensures ∙ l.invariant.3,
    )

pub shape_of-code : goal.shape_of-code
shape_of-code c = c.loop.invariant.1.long

pub returns : goal.returns
returns c =
    let l = c.loop in
    let a = c.args in
    let over = numbers_over a.s.now a.count l.counter l.to.next c.loop-test.false in
    record {
      pairs = left_done l.invariant.1 (ap ones over);
      next = sym (past_over a.s.now a.count l.counter l.to.next c.loop-test.false) ∙ l.invariant.2;
      mark = mark_done 0 l.to.mark 0 over ∙ l.invariant.3;
    }
