-- `read_number` meets its contract. A number of one byte is read straight. The loop's invariant: the groups from `at` on, counted by the
-- scale, with the sum of those before, are the number; the sum is below the scale, and the scale is at most 128 for each group passed.
use Prim.Native.Nat.{◌+◌, ◌-◌, ◌%◌}
use mathlib.Core.Path.{◌∙◌, ap, sym}
use native.Mathlib.Omega.{arith}
use Rattle.std.specs.Prelude.{Ok, Err}
use Rattle.numbers.proofs.number.Laws.{here, start, started, scale_most, group_most, sum_grows, scale_grows, come, ended, needless, last, more, spent}
use Rattle.numbers.proofs.short.Laws.{byte_read}
use Rattle.numbers.proofs.number.read_number.Goals as goal

pub returns-then-s-first : goal.returns-then-s-first
returns-then-s-first c = ap Err c.at.ensures ∙ ended _ 0 _ _ 0 1 (omega arith) c.if-s-first.true ∙ start _ _

pub returns-then-is_short : goal.returns-then-is_short
returns-then-is_short c =
    let g = c.from-byte in
    ap Ok c.new.ensures
    ∙ sym (byte_read _ _ g.result c.if-s-first.false g.ensures c.if-is_short.true)

pub loop-at-init : goal.loop-at-init
loop-at-init c =
    let g = c.from-byte in (
      omega arith,
      omega arith,
      omega arith,
      come (omega arith)
          (record {
            most = omega arith;
            left = started _ _ g.result c.if-s-first.false g.ensures c.if-is_short.false (omega (arith, g.ensures, c.type_inv.s c.args.first));
          }),
    )

pub returns-then-s-at : goal.returns-then-s-at
returns-then-s-at c =
    let l = c.loop-at in
    ap Err c.at-then-s-at.ensures
    ∙ ended _ (l.at - c.args.first) _ l.at l.sum l.scale (omega (arith, c.loop-at-test.true)) c.if-s-at.true
    ∙ l.invariant.3.left

pub overflow_mul-sum : goal.overflow_mul-sum
overflow_mul-sum c =
    let l = c.loop-at in
    omega (arith, group_most (l.at - c.args.first) l.scale (c.from-group.result % 128) (omega arith) l.invariant.3.most (omega arith))

pub overflow_add-sum : goal.overflow_add-sum
overflow_add-sum c =
    let l = c.loop-at in
    omega (
      arith,
      scale_most (l.at - c.args.first) l.scale (omega arith) l.invariant.3.most,
      group_most (l.at - c.args.first) l.scale (c.from-group.result % 128) (omega arith) l.invariant.3.most (omega arith),
    )

pub returns-then-is_needless : goal.returns-then-is_needless
returns-then-is_needless c =
    let l = c.loop-at in
    ap Err c.at-then-is_needless.ensures
    ∙ needless _ (l.at - c.args.first) _ l.at l.sum l.scale (omega (arith, c.loop-at-test.true)) c.if-s-at.false c.from-group.result
    c.from-group.ensures
    l.invariant.1
    c.if-is_needless.true
    ∙ l.invariant.3.left

pub returns-then-group-lt128 : goal.returns-then-group-lt128
returns-then-group-lt128 c =
    let l = c.loop-at in
    ap Ok c.new-then-group-lt128.ensures
    ∙ last _ (l.at - c.args.first) _ l.at l.sum l.scale (omega (arith, c.loop-at-test.true)) c.if-s-at.false c.from-group.result
    c.from-group.ensures
    l.invariant.1
    c.if-group-lt128.true
    c.if-is_needless.false
    ∙ l.invariant.3.left

pub overflow_mul-scale : goal.overflow_mul-scale
overflow_mul-scale c =
    let l = c.loop-at in
    omega (arith, scale_most (l.at - c.args.first) l.scale (omega arith) l.invariant.3.most)

pub loop-at-preserved : goal.loop-at-preserved
unfolding here
loop-at-preserved c =
    let l = c.loop-at in
    let k = l.at - c.args.first in (
      omega arith,
      omega arith,
      sum_grows l.sum l.scale (c.from-group.result % 128) l.invariant.2 (omega arith),
      come {k = k + 1} (omega arith)
          (record {
            most = scale_grows k l.scale l.invariant.3.most;
            left = more _ k _ l.at l.sum l.scale (omega (arith, c.loop-at-test.true)) c.if-s-at.false c.from-group.result
                c.from-group.ensures
                c.if-group-lt128.false
                ∙ l.invariant.3.left;
          }),
    )

pub returns : goal.returns
returns c =
    let l = c.loop-at in
    ap Err c.at-2.ensures ∙ spent _ (l.at - c.args.first) _ l.at l.sum l.scale (omega (arith, c.loop-at-test.false)) ∙ l.invariant.3.left
