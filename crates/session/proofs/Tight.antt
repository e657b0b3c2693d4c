-- Tight: two sessions and answers that meet one promise for the same session and sheet are equal, in the answer and in every byte
-- of the map, since the promise is that of the call on a lent map, which is tight. A session is its map.
use Prim.Native.Nat.{ℕ}
use mathlib.Core.Path.{◌≡◌, sym, ◌∙◌, ap}
use mathlib.Core.List.{List}
use Rattle.rules.specs.Map.{blank}
use Rattle.desk.specs.Promise.{Opens, Pins}
use Rattle.desk.specs.Promise.{Opened}
use Rattle.desk.proofs.Tight.{opens_tight, pins_tight}
use Rattle.session.specs.declared.Session.{Session}

-- sessions with the same map are the same
pub same : {a b : Session} → a.map ≡ b.map → a ≡ b
same e = ap (λ (m : List ℕ). record { map = m }) e

pub start_tight : (a b : Session) → a.map ≡ blank → b.map ≡ blank → a ≡ b
start_tight a b e f = same (e ∙ sym f)

pub session_open_tight :
    (s : List ℕ) (session a b : Session) (r r' : Opened) → Opens s session.map a.map r → Opens s session.map b.map r'
    → (r ≡ r') × (a ≡ b)
session_open_tight s session a b r r' p q =
    let e = opens_tight s session.map a.map b.map r r' p q in
    (e.0, same e.1)

pub session_pin_tight :
    (s : List ℕ) (session : Session) (atom side : ℕ) (a b : Session) (r r' : Opened)
    → Pins s session.map atom side a.map r → Pins s session.map atom side b.map r' → (r ≡ r') × (a ≡ b)
session_pin_tight s session atom side a b r r' p q =
    let e = pins_tight s session.map atom side a.map b.map r r' p q in
    (e.0, same e.1)
