-- The cycle of calls {choose, follow, trial}: each meets its contract by the laws of the search.
use mathlib.Core.Path.{sym}
use Rattle.search.proofs.Branches.{decided_all, followed, clashed, answered_in}
use Rattle.search.proofs.+choose_follow_trial.Goals as goal

pub choose-returns-in_default : goal.choose-returns-in_default
choose-returns-in_default t c = decided_all c.args.t.now.laid c.requires c.in_default.ensures

pub follow-returns-in_default : goal.follow-returns-in_default
follow-returns-in_default t c = let tries = c.in_default.ensures in clashed c.args.t.now.laid c.requires c.args.inside tries.tried

pub follow-returns : goal.follow-returns
follow-returns t c = let tries = c.in-Ok.ensures in followed c.args.t.now.laid c.requires c.args.inside _ tries.tried c.choose.ensures

pub trial-returns-then-is_some : goal.trial-returns-then-is_some
trial-returns-then-is_some t c = answered_in c.args.t.now.laid c.requires _ (sym c.if-is_some.ensures) c.follow-first.ensures
