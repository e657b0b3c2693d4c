-- `read_rule` meets its contract: a rule is the body after its head part.
use Rattle.std.proofs.Common.{rules}
use Rattle.sheet.proofs.rule.Head.{after_head, no_head}
use Rattle.sheet.proofs.rule.read_rule.Goals as goal

pub returns-in_err-head : goal.returns-in_err-head
returns-in_err-head c = no_head _ _ _ _ _ c.read_head.ensures _ c.in_err-head.was (search rules)

pub returns : goal.returns
returns c = after_head _ _ _ _ _ c.read_head.ensures _ c.in_ok-head.was c.read_body.ensures
