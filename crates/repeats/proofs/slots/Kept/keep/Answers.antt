-- `repeats::slots::Kept::keep`: no row with the rule is met from its slot, and it is entered.
use Rattle.repeats.specs.Inner.Marks.{slot_count}
use Rattle.repeats.proofs.slots.Laws.{was_new}
use Rattle.repeats.proofs.slots.Kept.keep.Goals as goal

pub returns : goal.returns
unfolding slot_count
returns c = rw c.enter.ensures (was_new _ _ _ _ c.requires c.in_default.ensures)
