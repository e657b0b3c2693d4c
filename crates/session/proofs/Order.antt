-- Demand 3 for a session: its calls keep the promises of open and pin on its own map, which starts as the same 512 bytes, so two
-- sessions end alike in every byte.
use Prim.Native.Nat.{ℕ}
use mathlib.Core.Path.{◌≡◌, sym, ◌∙◌}
use mathlib.Core.List.{List}
use Rattle.rules.specs.Rule.{Sheet, SameSet, Shuffled}
use Rattle.desk.specs.Run.{Pin, accepted_of}
use Rattle.desk.specs.Promise.{Opened}
use Rattle.desk.proofs.Order.{order_whole}
use Rattle.session.specs.Session.{SessionRun}
use Rattle.session.specs.declared.Session.{Session}
use Rattle.session.proofs.Tight.{same}

pub session_order :
    {s s' : List ℕ} {sh sh' : Sheet} {ps ps' : List Pin} {a b : Session} {r r' : Opened} → SessionRun s sh ps a r → SessionRun s' sh' ps' b r'
    → Shuffled sh sh' → SameSet (accepted_of sh.atoms ps) (accepted_of sh'.atoms ps') → (r ≡ r') × (a ≡ b)
session_order x y k pins =
    let (answer, bytes) = order_whole x.run y.run k pins (x.started ∙ sym y.started) in (answer, same bytes)
