-- `decode` meets its contract. The rules and the compute lists of an accepted sheet find room, and what is written is a table of them, each rule once.
use native.Mathlib.Omega.{arith}
use Rattle.rules.specs.Limits.{rules_most}
use Rattle.sheet.proofs.sheet.Ran.{sheet_ran}
use Rattle.decode.proofs.Decoded.{lists_ask, ending_room, ended}
use Rattle.decode.proofs.decode.Goals as goal

pub write_rest-lists-requires : goal.write_rest-lists-requires
write_rest-lists-requires c = rw c.new-unbound.ensures (lists_ask c.requires c.write_rules-rules.result c.write_rules-rules.ensures)

pub overflow_add-rules : goal.overflow_add-rules
unfolding rules_most
overflow_add-rules c =
    let ran = sheet_ran c.args.s.now c.args.sheet c.requires.accepted in
    omega (arith, c.write_rules-rules.ensures.few, ran.count, ran.well_formed.count)

pub end_rows-requires : goal.end_rows-requires
end_rows-requires c =
    ending_room c.requires c.write_rules-rules.result c.write_rules-rules.ensures
    c.write_rest-lists.result
    (rw c.new-unbound.ensures at c.write_rest-lists.ensures)

pub returns : goal.returns
returns c =
    ended c.requires c.write_rules-rules.result c.write_rules-rules.ensures
    c.write_rest-lists.result
    (rw c.new-unbound.ensures at c.write_rest-lists.ensures)
    c.end_rows.ensures
