-- `pinned` meets its contract: a copy of the map is closed, which is the same map.
use Rattle.rules.specs.Limits.{atoms_most}
use Rattle.table.specs.Inner.Rows.{table_sheet}
use Rattle.task.proofs.closed.Laws.{blank_fits, found_for, over_copy}
use Rattle.task.proofs.closed.pinned.Goals as goal

pub copy-requires-clause-into : goal.copy-requires-clause-into
unfolding atoms_most
copy-requires-clause-into c = (blank_fits c.args.t.now.laid.few_atoms).room

pub returns : goal.returns
unfolding atoms_most
returns c = over_copy (table_sheet _ _ _) _ _ _ c.copy.ensures c.requires.map.room (found_for (table_sheet _ _ _) _ _ _ c.close_pinned-closed.ensures.closed c.found.ensures)
