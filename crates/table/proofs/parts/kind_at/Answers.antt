-- `kind_at` meets its contract: the kind is that of the row's first word.
use mathlib.Core.Path.{◌∙◌, ap}
use Rattle.rules.specs.Rule.{kind_of}
use Rattle.table.specs.Inner.Words.{row_width}
use Rattle.table.specs.Inner.Rows.{kind_at}
use Rattle.table.proofs.parts.kind_at.Goals as goal

pub returns : goal.returns
unfolding kind_at row_width
returns c = c.of.ensures ∙ ap kind_of c.word.ensures
