-- `write_rule` meets its contract. The kind is taken, the heads are written, the bound is taken where there is one, and the rest follows.
use Rattle.decode.proofs.rows.Rule.{heads_fit, rest_asks, rule_put}
use Rattle.decode.proofs.rows.write_rule.Goals as goal

pub write_heads-heads-requires : goal.write_heads-heads-requires
write_heads-heads-requires c =
    let a = c.args in
    heads_fit a.s.now a.at a.code.now a.i a.j c.requires _ c.take_number-number.ensures _ c.of-kind.ensures

pub write_rest-requires : goal.write_rest-requires
write_rest-requires c =
    let a = c.args in
    rest_asks a.s.now a.at a.code.now a.i a.j c.requires _ c.take_number-number.ensures _ c.of-kind.ensures
    c.write_heads-heads.result
    c.write_heads-heads.ensures
    _
    c.take_bound-bound.ensures

pub returns : goal.returns
returns c =
    let a = c.args in
    rule_put a.s.now a.at a.code.now a.i a.j c.requires _ c.take_number-number.ensures _ c.of-kind.ensures
    c.write_heads-heads.result
    c.write_heads-heads.ensures
    _
    c.take_bound-bound.ensures
    c.write_rest.result
    c.write_rest.ensures
