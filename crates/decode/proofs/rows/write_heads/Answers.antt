-- `write_heads` meets its contract: a choice has a list of heads, every other kind one.
use Rattle.std.proofs.Common.{◌∙◌, sym, ap, arith}
use Rattle.rules.specs.Limits.{number_most}
use Rattle.rules.specs.Rule.{ones}
use Rattle.repeats.specs.Inner.Marks.{mixed, mixed_all, atoms_mark}
use Rattle.table.specs.Inner.Words.{pair_width}
use Rattle.decode.proofs.Taken.{number_fits}
use Rattle.decode.proofs.pairs.Copy.{asks_as, copied_as, list_as}
use Rattle.decode.proofs.rows.Rule.{list_heads, list_past_law, one_head, one_past}
use Rattle.decode.proofs.rows.write_heads.Goals as goal

pub copy_list-requires : goal.copy_list-requires
copy_list-requires c = asks_as (ap ones (list_heads _ _ _ c.in-Choice.is)) c.requires

pub returns-in-Choice : goal.returns-in-Choice
returns-in-Choice c =
    list_as (sym (list_heads _ _ _ c.in-Choice.is)) (sym (list_past_law _ _ _ c.in-Choice.is)) c.copy_list.ensures

pub write_pair-requires : goal.write_pair-requires
unfolding number_most
write_pair-requires c =
    record {
      room = (asks_as (ap ones (one_head _ _ _ c.take_number-head.ensures _ c.in_default.not-Choice)) c.requires).room;
      atom_fits = number_fits _ _ c.take_number-head.ensures;
      weight_fits = omega arith;
    }

pub overflow_add-result : goal.overflow_add-result
unfolding pair_width
overflow_add-result c =
    omega (
      arith,
      (asks_as (ap ones (one_head _ _ _ c.take_number-head.ensures _ c.in_default.not-Choice)) c.requires).room,
    )

pub mixed-requires : goal.mixed-requires
mixed-requires c = number_fits _ _ c.take_number-head.ensures

pub returns-in_default : goal.returns-in_default
unfolding mixed_all
returns-in_default c =
    let head = one_head _ _ _ c.take_number-head.ensures _ c.in_default.not-Choice in
    record {
      pairs = copied_as (ap ones head) c.write_pair.ensures;
      next = one_past _ _ _ c.take_number-head.ensures _ c.in_default.not-Choice;
      mark = c.mixed.ensures ∙ ap (λ m. mixed m 0 c.take_number-head.result.value) c.carried.ensures ∙ sym (ap (atoms_mark c.args.from.mark) head);
    }
