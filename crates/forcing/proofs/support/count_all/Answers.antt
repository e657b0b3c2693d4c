-- `forcing::support::count_all`: the rules before the present one are counted.
use Rattle.rules.specs.Map.{side}
use Rattle.forcing.proofs.Counting.{counting_begin, counting_more, counting_end}
use Rattle.forcing.proofs.support.count_all.Goals as goal

pub loop-i-init : goal.loop-i-init
loop-i-init c =
    let t = c.args.t.now in
    counting_begin t.code.now t.atoms t.rules (side t.atoms c.args.m.now) c.args.counts.now c.requires.space c.requires.none

pub loop-i-preserved : goal.loop-i-preserved
loop-i-preserved c =
    let t = c.args.t.now in
    counting_more t.code.now t.atoms t.rules (side t.atoms c.args.m.now) c.loop-i.i _ _ c.loop-i-test.true c.count_rule.auto.counts
    c.loop-i.invariant (rw (c.row.ensures.lent, c.row.ensures.atoms, c.row.ensures.at) at c.count_rule.ensures)

pub returns : goal.returns
returns c =
    let t = c.args.t.now in
    counting_end t.code.now t.atoms t.rules (side t.atoms c.args.m.now) c.loop-i.i _ c.loop-i-test.false c.loop-i.invariant
