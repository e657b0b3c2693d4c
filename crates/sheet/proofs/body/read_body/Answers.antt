-- `read_body` meets its contract: two lists, and then the weights. Each list is no longer than a number that was read.
use mathlib.Core.Path.{sym, ◌∙◌}
use Rattle.numbers.proofs.lists.Most.{list_most}
use Rattle.sheet.proofs.body.read_body.Goals as goal

pub read_weighed-requires : goal.read_weighed-requires
read_weighed-requires c =
    record {
      positive = list_most _ 0 _ _ _ (sym c.read_list.ensures ∙ c.in_ok-positive.was);
      negated = list_most _ 0 _ _ _ (sym c.read_list-2.ensures ∙ c.in_ok-negated.was);
    }
