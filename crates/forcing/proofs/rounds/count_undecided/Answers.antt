-- `forcing::rounds::count_undecided`: the zero bytes are counted.
use mathlib.Core.Path.{◌∙◌}
use Rattle.forcing.proofs.Closings.{zeros_undecided}
use Rattle.forcing.proofs.rounds.count_undecided.Goals as goal

pub returns : goal.returns
returns c = c.zeros.ensures.counted ∙ zeros_undecided c.args.n c.args.m.now
