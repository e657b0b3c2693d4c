-- `write_body` meets its contract. Its lists are written one after the other, and then its weights over them.
use Rattle.decode.proofs.rows.Body.{first_fits, second_fits, above_low, above_room, below_low, below_room, plain_put, weighed_put}
use Rattle.decode.proofs.rows.write_body.Goals as goal

pub copy_list-positive-requires : goal.copy_list-positive-requires
copy_list-positive-requires c =
    let a = c.args in
    first_fits a.s.now a.weighs a.from.next a.code.now a.from.pair a.from.mark c.requires

pub copy_list-negated-requires : goal.copy_list-negated-requires
copy_list-negated-requires c =
    let a = c.args in
    second_fits a.s.now a.weighs a.from.next a.code.now a.from.pair a.from.mark c.requires c.copy_list-positive.result c.copy_list-positive.ensures

pub copy_weights-above-requires : goal.copy_weights-above-requires
copy_weights-above-requires c =
    record {
      order = above_low _ _ _ _ _ _ c.requires _ c.copy_list-positive.ensures _ c.copy_list-negated.ensures;
      room = above_room _ _ _ _ _ _ c.requires _ c.copy_list-positive.ensures _ c.copy_list-negated.ensures;
    }

pub copy_weights-end-requires : goal.copy_weights-end-requires
copy_weights-end-requires c =
    record {
      order =
          below_low _ _ _ _ _ _ c.requires _ c.copy_list-positive.ensures _ c.copy_list-negated.ensures _
          c.copy_weights-above.ensures;
      room =
          below_room _ _ _ _ _ _ c.requires _ c.copy_list-positive.ensures _ c.copy_list-negated.ensures _
          c.copy_weights-above.ensures;
    }

pub returns-then-weighs : goal.returns-then-weighs
returns-then-weighs c =
    let a = c.args in
    weighed_put a.s.now a.weighs a.from.next a.code.now a.from.pair a.from.mark c.requires
    c.copy_list-positive.result
    c.copy_list-positive.ensures
    c.copy_list-negated.result
    c.copy_list-negated.ensures
    c.copy_weights-above.result
    c.copy_weights-above.ensures
    c.if-weighs.true
    c.copy_weights-end.result
    c.copy_weights-end.ensures

pub returns : goal.returns
returns c =
    let a = c.args in
    plain_put a.s.now a.weighs a.from.next a.code.now a.from.pair a.from.mark c.requires
    c.copy_list-positive.result
    c.copy_list-positive.ensures
    c.copy_list-negated.result
    c.copy_list-negated.ensures
    c.if-weighs.false
