-- `forcing::support::count_rule`: a rule whose heads that are in have two each, or whose reach is below its need, tells nothing more, and
-- any other one more at each head that is in.
use Rattle.rules.specs.Map.{side}
use Rattle.forcing.proofs.Counting.{rule_still, rule_short, rule_long}
use Rattle.forcing.proofs.support.count_rule.Goals as goal

pub returns-then-reach-need : goal.returns-then-reach-need
returns-then-reach-need c =
    let a = c.args in
    let row = a.row.now in
    rule_short row.code.now row.atoms row.at row.stands (side row.atoms a.m.now) a.counts.now a.counts.now _ _
    c.need.ensures c.reach.ensures c.if-reach-need.true

pub returns-else-reach-need : goal.returns-else-reach-need
returns-else-reach-need c =
    let a = c.args in
    let row = a.row.now in
    rule_long row.code.now row.atoms row.at row.stands (side row.atoms a.m.now) a.counts.now _ _ _
    c.need.ensures c.reach.ensures c.if-reach-need.false c.count_heads.ensures

pub returns-else-has_scarce : goal.returns-else-has_scarce
returns-else-has_scarce c =
    let a = c.args in
    let row = a.row.now in
    rule_still row.code.now row.atoms row.at row.stands (side row.atoms a.m.now) a.counts.now a.counts.now _
    c.if-has_scarce.false c.has_scarce.ensures
