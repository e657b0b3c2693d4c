-- `check` meets its contract: the counts of the sheet that was read.
use mathlib.Core.Path.{sym}
use Rattle.desk.proofs.calls.Laws.{checks_accepted}
use Rattle.desk.proofs.calls.check.Goals as goal

pub returns : goal.returns
returns c = checks_accepted _ _ (sym c.in_ok-sheet.ensures)
