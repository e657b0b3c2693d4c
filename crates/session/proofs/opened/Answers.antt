-- `opened` meets its contract: the call on a lent map keeps its promise on a copy of the session's map,
-- which becomes the session.
use Rattle.session.proofs.opened.Goals as goal

pub returns : goal.returns
returns c = c.open-answer.ensures
