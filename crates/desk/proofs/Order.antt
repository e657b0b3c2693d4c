-- Order does not matter. After open and after each pin a run stands where one open would end that asked for the compute lists and the
-- accepted pins so far, on the map that was first lent. What is asked sees neither the order of the rules nor that of the pins, and the
-- end of a question is tight: so two such runs end in the same bytes, with the same answer.
use Prim.Native.Nat.{ℕ, ◌≤◌, ◌<◌}
use mathlib.Core.Path.{◌≡◌, refl, sym, ◌∙◌, ap, subst}
use mathlib.Core.Bool.{Bool, true, false}
use mathlib.Core.List.{List, [], ◌∷◌, ◌++◌, append_assoc, append-nil}
use native.Mathlib.Omega.{arith}
use lib.ListN.{length, get_or, replicate}
use lib.Dec.{eqb}
use Rattle.std.specs.Prelude.{Some, None, Result, Ok, Err}
use Rattle.rules.specs.Sum.{pick}
use Rattle.rules.specs.Rule.{Sheet, SameSet, Shuffled}
use Rattle.rules.specs.Stable.{Set, Model}
use Rattle.rules.specs.Map.{Map, Literal, Holding, Written, inside, side, signed, total, ◌⊑◌, undecided}
use Rattle.rules.specs.Forcing.{Closed, Least, Pinned, computed}
use Rattle.rules.proofs.Fits.{Numbered}
use Rattle.rules.proofs.Least.{least_same, contradiction_same, holding_left, holding_right, holding_append, pins_after, contradiction_after, pin_held, holding_nil}
use Rattle.rules.proofs.Models.{loses_none, none_lost}
use Rattle.rules.proofs.Shuffle.{least_shuffled, contradiction_shuffled}
use Rattle.rules.proofs.Bytes.{map_side, written_trans}
use Rattle.rules.proofs.Tests.{T_and_left, true_T}
use Rattle.rules.proofs.Inside.{inside_within}
use Rattle.numbers.specs.Answer.{refusal}
use Rattle.numbers.specs.declared.Refusal.{Refusal}
use Rattle.numbers.specs.declared.reason.Reason.TheVariants.{BadPin}
use Rattle.sheet.specs.Sheet.{sheet_read}
use Rattle.sheet.specs.Meaning.{sheet_meant}
use Rattle.sheet.specs.declared.Outline.{Outline}
use Rattle.sheet.proofs.Accepted.{outlined, numbered}
use Rattle.gate.specs.Scan.{is_contradiction, map_fault}
use Rattle.gate.specs.Gate.{is_pin, pin_gate}
use Rattle.gate.proofs.Calls.{pin_goes, room_through, pins_through, pins_barred}
use Rattle.gate.proofs.scan.Maps.{map_none, map_stands, threes_map, threes_contradict}
use Rattle.desk.specs.Promise.{Opened, closed_with, contradicted, Upon, Opens, Pins, Ends, PinAsks, PinEnds, threes}
use Rattle.desk.specs.Run.{Pin, accepted_of, latest, PinCalls, done, next, Run}
use Rattle.desk.proofs.hand.Laws.{threes_are}
use Rattle.desk.proofs.Tight.{ends_alike, ends_written, ends_tight}

-- a promise whose gate is known
through : (s : List ℕ) (A : Refusal → Type 0) (B : Sheet → Type 0) {g h : (Result Outline Refusal)} → g ≡ h → Upon s g A B → Upon s h A B
through s A B e p = subst (λ (x : (Result Outline Refusal)). Upon s x A B) e p

-- the end of one question is that of another, where the two ask the same
asks_same :
    (sh : Sheet) (Q Q' : Map → Type 0) (m m' : List ℕ) (r : Opened) → ((X : Map) → Q X → Q' X) → ((X : Map) → Q' X → Q X)
    → Ends sh Q m m' r → Ends sh Q' m m' r
asks_same sh Q Q' m m' (Ok (Some k)) onto back e =
    record { least = least_same Q Q' onto back e.least; open' = e.open'; written = e.written }
asks_same sh Q Q' m m' (Ok None) onto back e = record { none = contradiction_same Q Q' back e.none; bytes = e.bytes }
asks_same sh Q Q' m m' (Err why) onto back e = absurd e

module _ (s : List ℕ) (o : Outline) (is : sheet_read s ≡ Ok o) (l : List ℕ) (enough : o.atoms ≤ length l) where
  abbrev sh : Sheet
  sh = sheet_meant s o

  abbrev n : ℕ
  n = o.atoms

  -- where a run stands after some pins, on the map that was first lent
  abbrev State : List Literal → List ℕ → Opened → Type 0
  State ps m r = Ends sh (Pinned sh ps) l m r

  opened_state : (m : List ℕ) (r : Opened) → Opens s l m r → State [] m r
  opened_state m r p =
      asks_same
      sh
      (Holding (computed sh))
      (Pinned sh [])
      l
      m
      r
      (λ X h. holding_append X (computed sh) [] h (holding_nil X))
      (λ X h. holding_left X (computed sh) [] h)
      (through
      s
      (λ why. (r ≡ Err why) × (m ≡ l))
      (λ x. Ends x (Holding (computed x)) l m r)
      (room_through (record { accepted = is; room = enough }))
      p.promise)

  state_room : (ps : List Literal) (m : List ℕ) (r : Opened) → State ps m r → n ≤ length m
  unfolding sheet_meant
  state_room ps m r st = omega (arith, (ends_written sh (Pinned sh ps) l m r enough st).long)

  module _ (ps : List Literal) (m : List ℕ) (a v : ℕ) where
    abbrev p : Literal
    p = signed (eqb v 1) a

    abbrev passes : Bool
    passes = is_pin n a v

    -- a refused pin
    refused_pin :
        (m' : List ℕ) (r r₁ : Opened) → State ps m r → passes ≡ false → Pins s m a v m' r₁ → State ps m' (latest r r₁)
    refused_pin m' r r₁ st e q =
        let
        stop : (r₁ ≡ Err (refusal BadPin 0)) × (m' ≡ m)
        = through
        s
        (λ why. (r₁ ≡ Err why) × (m' ≡ m))
        (λ x. PinEnds (is_contradiction x.atoms m) x m a v m' r₁)
        (pins_barred (record { accepted = is; room = state_room ps m r st }) a v e)
        q.promise
        in
        subst (λ (x : List ℕ). State ps x (latest r r₁)) (sym stop.1) (subst (State ps m) (sym (ap (latest r) stop.0)) st)

    -- an accepted one, on a map without a fault
    accepted_pin :
        (m' : List ℕ) (r₁ : Opened) → n ≤ length m → passes ≡ true → map_fault n m ≡ n → Pins s m a v m' r₁
        → PinEnds (is_contradiction n m) sh m a v m' r₁
    unfolding sheet_meant
    accepted_pin m' r₁ room e f q =
        through
        s
        (λ why. (r₁ ≡ Err why) × (m' ≡ m))
        (λ x. PinEnds (is_contradiction x.atoms m) x m a v m' r₁)
        (pins_through (record { accepted = is; room = room }) a v e f)
        q.promise

    -- the pins so far and the new one
    onto : (X : Map) → Holding (computed sh ++ ps ++ (p ∷ [])) X → Pinned sh (ps ++ (p ∷ [])) X
    onto X h =
        let f = holding_left X (computed sh ++ ps) (p ∷ []) h in
        holding_append
        X
        (computed sh)
        (ps ++ (p ∷ []))
        (holding_left X (computed sh) ps f)
        (holding_append X ps (p ∷ []) (holding_right X (computed sh) ps f) (holding_right X (computed sh ++ ps) (p ∷ []) h))

    back : (X : Map) → Pinned sh (ps ++ (p ∷ [])) X → Holding (computed sh ++ ps ++ (p ∷ [])) X
    back X h =
        let g = holding_right X (computed sh) (ps ++ (p ∷ [])) h in
        holding_append
        X
        (computed sh ++ ps)
        (p ∷ [])
        (holding_append X (computed sh) ps (holding_left X (computed sh) (ps ++ (p ∷ [])) h) (holding_left X ps (p ∷ []) g))
        (holding_right X ps (p ∷ []) g)

    -- a pin's question, on the least map that holds the pins before it, is that of all these pins
    pinned_on :
        (k : ℕ) (m' : List ℕ) (r r₁ : Opened) → State ps m (Ok (Some k)) → Ends sh (PinAsks sh m a v) m m' r₁
        → State (ps ++ (p ∷ [])) m' (latest r r₁)
    unfolding sheet_meant
    pinned_on k m' r (Ok (Some j)) st e =
        record {
          least = least_same _ (Pinned sh (ps ++ (p ∷ []))) onto back (pins_after (computed sh ++ ps) (p ∷ []) st.least e.least);
          open' = e.open';
          written = written_trans st.written e.written;
        }
    pinned_on k m' r (Ok None) st e =
        record {
          none =
              contradiction_same _ (Pinned sh (ps ++ (p ∷ []))) back (contradiction_after (computed sh ++ ps) (p ∷ []) st.least e.none);
          bytes = e.bytes ∙ ap (λ (past : List ℕ). replicate n 3 ++ past) st.written.past;
        }
    pinned_on k m' r (Err why) st e = absurd e

    next_state :
        (m' : List ℕ) (r r₁ : Opened) → State ps m r → passes ≡ true → Pins s m a v m' r₁ → State (ps ++ (p ∷ [])) m' (latest r r₁)
    unfolding sheet_meant
    next_state m' (Ok (Some k)) r₁ st e q =
        let small = map_side n m st.least.closed.is_map in
        pinned_on k m' (Ok (Some k)) r₁ st
        (subst
        (λ (b : Bool). PinEnds b sh m a v m' r₁)
        (map_stands n m small)
        (accepted_pin m' r₁ (state_room ps m (Ok (Some k)) st) e (map_none n m small) q))
    next_state m' (Ok None) r₁ st e q =
        let
        end : (r₁ ≡ contradicted) × (m' ≡ m)
        = subst
        (λ (b : Bool). PinEnds b sh m a v m' r₁)
        (threes_contradict n m some all)
        (accepted_pin m' r₁ (state_room ps m contradicted st) e (threes_map n m some all) q)
        in
        subst
        (State (ps ++ (p ∷ [])) m')
        (sym (ap (latest contradicted) end.0))
        (record {
          none =
              contradiction_same
              (Pinned sh ps)
              (Pinned sh (ps ++ (p ∷ [])))
              (λ X h. holding_left X (computed sh ++ ps) (p ∷ []) (back X h))
              st.none;
          bytes = end.1 ∙ st.bytes;
        })
      where
        some : 0 < n
        some =
            let w = inside_within n a (T_and_left (inside n a) (inside 2 v) (true_T e)) in omega (arith, w.low, w.high)

        all : (i : ℕ) → i < n → get_or m i 0 ≡ 3
        all i h = ap (λ (x : List ℕ). get_or x i 0) st.bytes ∙ threes_are n l i h
    next_state m' (Err why) r₁ st e q = absurd st

  -- a run of pins keeps the state
  pinned_state :
      (qs : List Literal) {m : List ℕ} {r : Opened} {ps : List Pin} {m' : List ℕ} {r' : Opened} → State qs m r → PinCalls s m r ps m' r'
      → State (qs ++ accepted_of n ps) m' r'
  unfolding accepted_of pick
  pinned_state qs {m' = m'} {r' = r'} st done = subst (λ (x : List Literal). State x m' r') (sym (append-nil qs)) st
  pinned_state qs {m = m} {r = r} {m' = m'} {r' = r'} st (next {m₁ = m₁} {r₁ = r₁} {p = p} {ps = ps} q run) =
      step
      (is_pin n p.atom p.side)
      refl
      (λ st'. pinned_state qs st' run)
      (λ st'. pinned_state (qs ++ (signed (eqb p.side 1) p.atom ∷ [])) st' run)
    where
      x : Literal
      x = signed (eqb p.side 1) p.atom

      step :
          (b : Bool) → (is_pin n p.atom p.side) ≡ b
          → (State qs m₁ (latest r r₁) → State (qs ++ accepted_of n ps) m' r')
          → (State (qs ++ (x ∷ [])) m₁ (latest r r₁) → State (qs ++ (x ∷ []) ++ accepted_of n ps) m' r')
          → State (qs ++ pick b (x ∷ accepted_of n ps) (accepted_of n ps)) m' r'
      step true e same more =
          subst
          (λ (y : List Literal). State y m' r')
          (append_assoc qs (x ∷ []) (accepted_of n ps))
          (more (next_state qs m p.atom p.side m₁ r r₁ st e q))
      step false e same more = same (refused_pin qs m p.atom p.side m₁ r r₁ st e q)

-- where a run ends
pub run_final :
    {s : List ℕ} {sh : Sheet} {ps : List Pin} {m : List ℕ} {r : Opened} (run : Run s sh ps m r)
    → Ends sh (Pinned sh (accepted_of sh.atoms ps)) run.lent m r
unfolding sheet_meant
run_final {s} {sh} {ps} {m} {r} run =
    let (o, is, e) = outlined s sh run.is in
    subst
    (λ (x : Sheet). Ends x (Pinned x (accepted_of x.atoms ps)) run.lent m r)
    e
    (of o is (subst (λ (x : Sheet). x.atoms ≤ length run.lent) (sym e) run.room))
  where
    of :
        (o : Outline) → sheet_read s ≡ Ok o → o.atoms ≤ length run.lent
        → Ends (sheet_meant s o) (Pinned (sheet_meant s o) (accepted_of o.atoms ps)) run.lent m r
    of o is room =
        pinned_state s o is run.lent room [] (opened_state s o is run.lent room run.opened run.answer run.opens) run.pins

-- the end of one question on two sheets that differ only in the order of their rules, for the same pins
ends_shuffled :
    {sh sh' : Sheet} → Shuffled sh sh' → {ps ps' : List Literal} → SameSet ps ps' → (m m' : List ℕ) (r : Opened)
    → Ends sh (Pinned sh ps) m m' r → Ends sh' (Pinned sh' ps') m m' r
ends_shuffled {sh} {sh'} k {ps} {ps'} same m m' (Ok (Some j)) e =
    record {
      least =
          subst
          (λ (x : ℕ). Least (Closed sh'.rules sh'.atoms) (Pinned sh' ps') (side x m'))
          k.atoms
          (least_shuffled k same e.least);
      open' = e.open' ∙ ap (λ (x : ℕ). undecided x m') k.atoms;
      written = subst (λ (x : ℕ). Written x m m') k.atoms e.written;
    }
ends_shuffled k same m m' (Ok None) e =
    record { none = contradiction_shuffled k same e.none; bytes = e.bytes ∙ ap (λ (x : ℕ). threes x m) k.atoms }
ends_shuffled k same m m' (Err why) e = absurd e

-- demand 3
module _
    {s s' : List ℕ}
    {sh sh' : Sheet}
    {ps ps' : List Pin}
    {m m' : List ℕ}
    {r r' : Opened}
    (run : Run s sh ps m r)
    (run' : Run s' sh' ps' m' r')
    (k : Shuffled sh sh')
    (same : SameSet (accepted_of sh.atoms ps) (accepted_of sh'.atoms ps'))
  where
    enough : sh'.atoms ≤ length run.lent
    enough = subst (λ (x : ℕ). x ≤ length run.lent) k.atoms run.room

    end : Ends sh' (Pinned sh' (accepted_of sh'.atoms ps')) run.lent m r
    end = ends_shuffled k same run.lent m r (run_final run)

    pub order : (r ≡ r') × ((i : ℕ) → i < sh'.atoms → get_or m i 0 ≡ get_or m' i 0)
    order =
        ends_alike
        sh'
        (Pinned sh' (accepted_of sh'.atoms ps'))
        run.lent
        run'.lent
        m
        m'
        r
        r'
        enough
        run'.room
        end
        (run_final run')

    -- on the same lent map two such runs end in the same bytes, past n too
    pub order_whole : run.lent ≡ run'.lent → (r ≡ r') × (m ≡ m')
    order_whole e =
        ends_tight
        sh'
        (Pinned sh' (accepted_of sh'.atoms ps'))
        run.lent
        m
        m'
        r
        r'
        enough
        end
        (subst (λ (l : List ℕ). Ends sh' (Pinned sh' (accepted_of sh'.atoms ps')) l m' r') (sym e) (run_final run'))

-- forcing never loses an agreeing stable model: where one has the pins, the run does not end in contradiction, and the map is below it
pub loses_no_model :
    {s : List ℕ} {sh : Sheet} {ps : List Pin} {m : List ℕ} {r : Opened} → Run s sh ps m r → (S : Set) → Model sh S
    → Holding (accepted_of sh.atoms ps) (total sh.atoms S)
    → (r ≡ closed_with (undecided sh.atoms m)) × (side sh.atoms m ⊑ total sh.atoms S)
loses_no_model {s = s} {sh = sh} {ps = ps} {m = m} {r = r} run S md h = step r (run_final run)
  where
    ok : Numbered sh
    ok = numbered s sh run.is

    step :
        (r : Opened) → Ends sh (Pinned sh (accepted_of sh.atoms ps)) run.lent m r
        → (r ≡ closed_with (undecided sh.atoms m)) × (side sh.atoms m ⊑ total sh.atoms S)
    step (Ok (Some k)) e = (ap closed_with e.open', loses_none ok (accepted_of sh.atoms ps) e.least md h)
    step (Ok None) e = absurd (none_lost ok (accepted_of sh.atoms ps) e.none md h)
    step (Err why) e = absurd e

-- "A pin already held on a closed map changes nothing."
pub held_pin :
    (s m m' : List ℕ) (a v : ℕ) (r : Opened) (o : Outline) → pin_gate s m a v ≡ Ok o
    → Closed (sheet_meant s o).rules o.atoms (side o.atoms m) → Holding (signed (eqb v 1) a ∷ []) (side o.atoms m)
    → Pins s m a v m' r → (r ≡ closed_with (undecided o.atoms m)) × (m' ≡ m)
unfolding sheet_meant
held_pin s m m' a v r o g c h q =
    ends_tight
    sh
    (PinAsks sh m a v)
    m
    m'
    m
    r
    (closed_with (undecided o.atoms m))
    (pin_goes s m a v g).lent.room
    (subst
    (λ (b : Bool). PinEnds b sh m a v m' r)
    (map_stands o.atoms m (map_side o.atoms m c.is_map))
    (through
    s
    (λ why. (r ≡ Err why) × (m' ≡ m))
    (λ x. PinEnds (is_contradiction x.atoms m) x m a v m' r)
    g
    q.promise))
    (record {
      least = pin_held (side o.atoms m) (signed (eqb v 1) a ∷ []) c h;
      open' = refl;
      written = record { long = refl; past = refl };
    })
  where
    sh : Sheet
    sh = sheet_meant s o
