-- "Bytes past n are never read or written", and open and solve do not read the old map: two calls whose lent maps agree in what may be
-- read give the same answer and the same n bytes, since their gates and their questions are the same.
use Prim.Native.Nat.{ℕ}
use mathlib.Core.Path.{◌≡◌, refl, sym, ◌∙◌, ap, subst, fun_ext}
use mathlib.Core.Bool.{Bool, true, false}
use mathlib.Core.List.{List, [], ◌∷◌}
use lib.ListN.{get_or}
use lib.Dec.{eqb}
use Rattle.std.specs.Prelude.{Result, Ok, Err}
use Rattle.rules.specs.Stable.{Model}
use Rattle.rules.specs.Rule.{Sheet, nth_rule}
use Rattle.rules.specs.Map.{Map, Holding, Over, side, is, signed, margin}
use Rattle.rules.specs.Forcing.{computed}
use Rattle.rules.specs.Inner.Bytes.{Room}
use Rattle.rules.proofs.Bytes.{side_same}
use Rattle.rules.proofs.Tight.{fixed}
use Rattle.numbers.specs.declared.Refusal.{Refusal}
use Rattle.sheet.specs.Sheet.{sheet_read}
use Rattle.sheet.specs.Meaning.{sheet_meant}
use Rattle.sheet.specs.declared.Outline.{Outline}
use Rattle.sheet.proofs.Accepted.{numbered}
use Rattle.sheet.proofs.sheet.Written.{meant}
use Rattle.gate.specs.Scan.{is_contradiction}
use Rattle.gate.specs.Gate.{test_gate, pin_gate, margin_gate}
use Rattle.gate.proofs.Calls.{Lent, room_through, pin_goes, test_goes, margin_goes}
use Rattle.gate.proofs.Past.{pin_gate_same, test_gate_same, margin_gate_same}
use Rattle.gate.proofs.scan.Maps.{is_contradiction_same}
use Rattle.desk.specs.Promise.{Opened, Searched, Tested, MarginRead, Upon, Opens, Pins, Solves, Tests, Margins, Ends, PinAsks, PinEnds, TestEnds}
use Rattle.desk.proofs.Tight.{Agree, ends_alike, solve_ends_alike, test_ends_tight}

-- an accepted sheet, and two lent maps that are long enough
module _ (s : List ℕ) (o : Outline) (accepted : sheet_read s ≡ Ok o) (m l : List ℕ) (room : Room o.atoms m) (room' : Room o.atoms l) where
  abbrev sh : Sheet
  sh = sheet_meant s o

  abbrev n : ℕ
  n = o.atoms

  lent : Lent s m o
  lent = record { accepted = accepted; room = room }

  lent' : Lent s l o
  lent' = record { accepted = accepted; room = room' }

  -- where the gate lets a call go on
  goes : (A : Refusal → Type 0) (B : Sheet → Type 0) {g : Result Outline Refusal} → g ≡ Ok o → Upon s g A B → B sh
  goes A B e p = subst (λ (x : (Result Outline Refusal)). Upon s x A B) e p

  pub open_reads_no_map : {m' l' : List ℕ} {r q : Opened} → Opens s m m' r → Opens s l l' q → (r ≡ q) × Agree n m' l'
  unfolding sheet_meant
  open_reads_no_map {m'} {l'} {r} {q} p p' =
      ends_alike
      sh
      (Holding (computed sh))
      m
      l
      m'
      l'
      r
      q
      room
      room'
      (goes _ _ (room_through lent) p.promise)
      (goes _ _ (room_through lent') p'.promise)

  pub solve_reads_no_map : {m' l' : List ℕ} {r q : Searched} → Solves s m m' r → Solves s l l' q → (r ≡ q) × Agree n m' l'
  unfolding sheet_meant
  solve_reads_no_map {m'} {l'} {r} {q} p p' =
      solve_ends_alike
      sh
      (numbered s sh (meant s o accepted))
      m
      l
      m'
      l'
      r
      q
      (goes _ _ (room_through lent) p.promise)
      (goes _ _ (room_through lent') p'.promise)

  -- the lent maps agree on their first n bytes
  module _ (same : Agree o.atoms m l) where
    sides : side n m ≡ side n l
    sides = fun_ext (side_same n m l same)

    -- a call whose gate is the same for both maps, and goes on, if at all, with this sheet
    by_gate :
        (g : (Result Outline Refusal)) (A A' : Refusal → Type 0) (B B' : Sheet → Type 0) {C : Type 0}
        → ((y : Outline) → g ≡ Ok y → sheet_read s ≡ Ok y) → ((why : Refusal) → A why → A' why → C)
        → (B sh → B' sh → C) → Upon s g A B → Upon s g A' B' → C
    by_gate (Err why) A A' B B' f stop go p p' = stop why p p'
    by_gate (Ok y) A A' B B' f stop go p p' =
        let e : y ≡ o = same_accepted (f y refl) accepted in
        go (subst (λ (x : Outline). B (sheet_meant s x)) e p) (subst (λ (x : Outline). B' (sheet_meant s x)) e p')
      where
        same_accepted : {x y : Outline} → sheet_read s ≡ Ok x → sheet_read s ≡ Ok y → x ≡ y
        same_accepted h k = let z : Ok _ ≡ Ok _ = sym h ∙ k in cc

    pub pin_reads_no_more : (a v : ℕ) {m' l' : List ℕ} {r q : Opened} → Pins s m a v m' r → Pins s l a v l' q → (r ≡ q) × Agree n m' l'
    unfolding sheet_meant
    pin_reads_no_more a v {m'} {l'} {r} {q} p p' =
        by_gate
        (pin_gate s m a v)
        (λ why. (r ≡ Err why) × (m' ≡ m))
        (λ why. (q ≡ Err why) × (l' ≡ l))
        (λ x. PinEnds (is_contradiction x.atoms m) x m a v m' r)
        (λ x. PinEnds (is_contradiction x.atoms l) x l a v l' q)
        (λ y g. (pin_goes s m a v g).lent.accepted)
        (λ why e e'. (fixed r q e.0 e'.0, as_they_were e.1 e'.1))
        (λ e e'. ended (is_contradiction n m) e (subst (λ (b : Bool). PinEnds b sh l a v l' q) (sym (is_contradiction_same n m l same)) e'))
        p.promise
        (subst
        (λ (g : (Result Outline Refusal)). Upon s g (λ why. (q ≡ Err why) × (l' ≡ l)) (λ x. PinEnds (is_contradiction x.atoms l) x l a v l' q))
        (sym (pin_gate_same o m l same s lent lent' a v))
        p'.promise)
      where
        as_they_were : m' ≡ m → l' ≡ l → Agree n m' l'
        as_they_were e e' i h = ap (λ (x : List ℕ). get_or x i 0) e ∙ same i h ∙ sym (ap (λ (x : List ℕ). get_or x i 0) e')

        ended : (b : Bool) → PinEnds b sh m a v m' r → PinEnds b sh l a v l' q → (r ≡ q) × Agree n m' l'
        ended true e e' = (fixed r q e.0 e'.0, as_they_were e.1 e'.1)
        ended false e e' =
            ends_alike
            sh
            (PinAsks sh m a v)
            m
            l
            m'
            l'
            r
            q
            room
            room'
            e
            (subst (λ (M : Map). Ends sh (Over M (signed (eqb v 1) a ∷ [])) l l' q) (sym sides) e')

    pub test_reads_no_more : {r q : Tested} → Tests s m r → Tests s l q → r ≡ q
    unfolding sheet_meant
    test_reads_no_more {r} {q} p p' =
        by_gate
        (test_gate s m)
        (λ why. r ≡ Err why)
        (λ why. q ≡ Err why)
        (λ x. TestEnds x m r)
        (λ x. TestEnds x l q)
        (λ y g. (test_goes s m g).0.accepted)
        (λ why. fixed r q)
        (λ e e'. test_ends_tight sh m r q e (ended q e'))
        p.promise
        (subst
        (λ (g : (Result Outline Refusal)). Upon s g (λ why. q ≡ Err why) (λ x. TestEnds x l q))
        (sym (test_gate_same o m l same s lent lent'))
        p'.promise)
      where
        ended : (x : Tested) → TestEnds sh l x → TestEnds sh m x
        ended (Ok true) e = subst (λ (M : Map). Model sh (is 1 M)) (sym sides) e
        ended (Ok false) e = λ md. e (subst (λ (M : Map). Model sh (is 1 M)) sides md)
        ended (Err why) e = e

    pub margin_reads_no_more : (k : ℕ) {r q : MarginRead} → Margins s m k r → Margins s l k q → r ≡ q
    unfolding sheet_meant
    margin_reads_no_more k {r} {q} p p' =
        by_gate
        (margin_gate s m k)
        (λ why. r ≡ Err why)
        (λ why. q ≡ Err why)
        (λ x. r ≡ Ok (margin (nth_rule x k) (side x.atoms m)))
        (λ x. q ≡ Ok (margin (nth_rule x k) (side x.atoms l)))
        (λ y g. (margin_goes s m k g).1.accepted)
        (λ why. fixed r q)
        (λ e e'. e ∙ ap (λ (M : Map). Ok (margin (nth_rule sh k) M)) sides ∙ sym e')
        p.promise
        (subst
        (λ (g : (Result Outline Refusal)). Upon s g (λ why. q ≡ Err why) (λ x. q ≡ Ok (margin (nth_rule x k) (side x.atoms l))))
        (sym (margin_gate_same o m l same s lent lent' k))
        p'.promise)
