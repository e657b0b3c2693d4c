-- `opened` meets its contract: above a blank map nothing but the compute lists is asked for.
use Rattle.rules.specs.Limits.{atoms_most}
use Rattle.table.specs.Inner.Rows.{table_sheet}
use Rattle.task.proofs.closed.Laws.{blank_fits, found_for, opened_for}
use Rattle.task.proofs.closed.opened.Goals as goal

pub close_held-closed-requires : goal.close_held-closed-requires
unfolding atoms_most
close_held-closed-requires c = blank_fits c.args.t.now.laid.few_atoms

pub returns : goal.returns
unfolding atoms_most
returns c = opened_for _ _ _ c.args.t.now.laid _ (found_for (table_sheet _ _ _) _ _ _ c.close_held-closed.ensures.closed c.found.ensures)
