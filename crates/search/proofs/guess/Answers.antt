-- `guess` meets its contract: what `close` says of the map with the guess written is said of the guess.
use Rattle.weigh.proofs.Steps.{clashed}
use Rattle.search.proofs.Guesses.{guess_none, guess_closed}
use Rattle.search.proofs.guess.Goals as goal

pub returns-in_err-close : goal.returns-in_err-close
returns-in_err-close c =
    rw (clashed _ c.from_residual.ensures.0)
    (guess_none c.args.t.now.laid c.requires c.args.inside _ c.side_for.ensures c.in_err-close.ensures)

pub returns : goal.returns
returns c = guess_closed c.args.t.now.laid c.requires c.args.inside _ c.side_for.ensures c.in_ok-close.ensures
