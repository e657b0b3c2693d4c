-- `table::Table::row`: a table that is laid has a row for each rule, and one for the compute lists.
use Rattle.table.proofs.Rows.{row_stands}
use Rattle.table.proofs.laid.Table.row.Goals as goal

pub invariant_of-result : goal.invariant_of-result
invariant_of-result c = record { stands = row_stands _ _ _ c.args.self.now.laid _ c.requires }
