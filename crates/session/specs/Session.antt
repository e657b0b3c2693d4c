-- "A desk session: one record with a map of 512 bytes, all 0 at first, changed in place through `&mut`." A run of a session: it is
-- started, an accepted sheet is opened on it, and then pinned; each call with its promise.
use Rattle.std.specs.Prelude.{ℕ, ◌≡◌, List}
use Rattle.rules.specs.Rule.{Sheet}
use Rattle.rules.specs.Map.{blank}
use Rattle.desk.specs.Run.{Pin, Run}
use Rattle.desk.specs.Promise.{Opened}
use Rattle.session.specs.declared.Session.{Session}

pub record SessionRun (s : List ℕ) (sh : Sheet) (ps : List Pin) (session : Session) (r : Opened) : Type 0 where
  pub run : Run s sh ps session.map r
  pub started : run.lent ≡ blank
