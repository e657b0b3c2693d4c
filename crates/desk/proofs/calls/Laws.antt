-- Each call, put together: a gate that stops it is its refusal, and else its work, handed over, is its answer.
use Prim.Native.Nat.{ℕ, ◌-◌, ◌≤◌}
use mathlib.Core.Path.{◌≡◌, refl, sym, ◌∙◌, ap, subst}
use mathlib.Core.Bool.{Bool, true, false}
use mathlib.Core.List.{List, [], ◌∷◌}
use native.Mathlib.Omega.{arith}
use lib.ListN.{get_or}
use lib.Dec.{eqb}
use lib.IntN.{ℤ}
use Rattle.std.specs.Prelude.{Option, Some, None, Result, Ok, Err, is_some}
use Rattle.std.specs.Option.{ForSome}
use Rattle.rules.specs.Limits.{atoms_most}
use Rattle.rules.specs.Rule.{Sheet, nth_rule, no_rule, Within, part_of}
use Rattle.rules.specs.Stable.{Model, First}
use Rattle.rules.specs.Map.{Map, Literal, Holding, Over, side, is, signed, margin, Whole}
use Rattle.rules.specs.Forcing.{Closed, Least, computed}
use Rattle.rules.specs.Inner.Bytes.{Room, MapBytes}
use Rattle.rules.specs.declared.RuleNo.{RuleNo}
use Rattle.rules.proofs.Fits.{Numbered}
use Rattle.rules.proofs.Testing.{closed_model, clash_no_model}
use Rattle.numbers.specs.declared.Refusal.{Refusal}
use Rattle.sheet.specs.Sheet.{sheet_read}
use Rattle.sheet.specs.Meaning.{sheet_meant}
use Rattle.sheet.specs.declared.Outline.{Outline}
use Rattle.sheet.proofs.sheet.Ran.{sheet_ran}
use Rattle.sheet.proofs.Accepted.{numbered}
use Rattle.sheet.proofs.sheet.Written.{meant}
use Rattle.table.specs.Inner.Rows.{row_rule, table_sheet}
use Rattle.gate.specs.Scan.{is_contradiction}
use Rattle.gate.specs.Gate.{room_gate, test_gate, pin_gate, margin_gate, part_gate, pin_of, rule_of}
use Rattle.gate.specs.declared.Pin.{Pin}
use Rattle.gate.proofs.Calls.{Lent, room_goes, pin_goes, test_goes, margin_goes, part_goes}
use Rattle.search.specs.Inner.Search.{FirstIn}
use Rattle.task.specs.Inner.Copy.{first_bytes}
use Rattle.task.specs.Inner.Closed.{ClosedFor}
use Rattle.task.specs.Inner.Performs.{opening, pinning, holding, solving, asking_margin, asking_part}
use Rattle.task.specs.declared.closed.ClosedMap.{ClosedMap}
use Rattle.task.proofs.Shuffled.{performs_shuffled}
use Rattle.task.proofs.bytes.Laws.{first_byte, first_side, first_written, first_undecided}
use Rattle.desk.specs.Promise.{Upon, Checks, Parts, Ends, Opens, PinEnds, Pins, SolveEnds, Solves, TestEnds, Tests, Margins, PinAsks, threes}
use Rattle.desk.specs.Inner.Run.{Stands}
use Rattle.desk.specs.Inner.Hand.{Handed, Hands}
use Rattle.desk.specs.declared.Solved.TheVariants.{Model as ModelFound, NoModel as NoneFound}

-- a gate that is known
pub upon_stop :
    (s : List ℕ) (A : Refusal → Type 0) (B : Sheet → Type 0) {g : Result Outline Refusal} (why : Refusal) → g ≡ Err why → A why → Upon s g A B
upon_stop s A B why e p = subst (λ (x : Result Outline Refusal). Upon s x A B) (sym e) p

pub upon_go :
    (s : List ℕ) (A : Refusal → Type 0) (B : Sheet → Type 0) {g : Result Outline Refusal} {o : Outline} → g ≡ Ok o → B (sheet_meant s o)
    → Upon s g A B
upon_go s A B e p = subst (λ (x : Result Outline Refusal). Upon s x A B) (sym e) p

-- a sheet has no more atoms than a map of its own has bytes
pub few_atoms : (s : List ℕ) (o : Outline) → sheet_read s ≡ Ok o → o.atoms ≤ atoms_most
unfolding sheet_meant
few_atoms s o e = (sheet_ran s o e).well_formed.atoms

-- the map handed over is the end of the question
map_ends :
    (sh : Sheet) (Q : Map → Type 0) (m m' : List ℕ) (x : Option ClosedMap) (a : Option ℕ) → ClosedFor sh Q x → Room sh.atoms m
    → Handed sh.atoms x m m' a → Ends sh Q m m' (Ok a)
map_ends sh Q m m' (Some x) a l lent (q, bytes) =
    subst
    (λ (y : Option ℕ). Ends sh Q m m' (Ok y))
    (sym q)
    (subst
    (λ (y : List ℕ). Ends sh Q m y (Ok (Some x.undecided)))
    (sym bytes)
    (record {
      least = subst (λ (M : Map). Least (Closed sh.rules sh.atoms) Q M) (first_side sh.atoms x.map m l.room) l.least;
      open' = l.open' ∙ first_undecided sh.atoms x.map m l.room lent;
      written = first_written sh.atoms x.map m l.room lent;
    }))
map_ends sh Q m m' None a none lent (q, bytes) =
    subst (λ (y : Option ℕ). Ends sh Q m m' (Ok y)) (sym q) (record { none = none; bytes = bytes })

-- what was found on the table is of the sheet
module _
    {s : List ℕ}
    {o : Outline}
    {c : List ℕ}
    {n count wanted : ℕ}
    {d : List ℕ}
    {k at : ℕ}
    (on : Stands s o wanted c n count d k at)
    (x : Option ClosedMap)
  where
    opened_on : ClosedFor (table_sheet c n count) (Holding (computed (table_sheet c n count))) x → ClosedFor (sheet_meant s o) (Holding (computed (sheet_meant s o))) x
    opened_on f = performs_shuffled on.sheet no_rule no_rule (opening x) tt f

    pinned_on :
        (m : List ℕ) (p : Literal) → ClosedFor (table_sheet c n count) (Over (side n m) (p ∷ [])) x
        → ClosedFor (sheet_meant s o) (Over (side o.atoms m) (p ∷ [])) x
    unfolding sheet_meant
    pinned_on m p f = performs_shuffled on.sheet no_rule no_rule (pinning m p x) tt f

    held_on :
        (m : List ℕ) → ClosedFor (table_sheet c n count) (Over (side n m) (computed (table_sheet c n count))) x
        → ClosedFor (sheet_meant s o) (Over (side o.atoms m) (computed (sheet_meant s o))) x
    unfolding sheet_meant
    held_on m f = performs_shuffled on.sheet no_rule no_rule (holding m x) tt f

    -- a map that was found has room for the sheet's atoms
    pub has_room : (Q : Map → Type 0) → ClosedFor (table_sheet c n count) Q x → ForSome x (λ y. Room o.atoms y.map)
    has_room Q f y e =
        subst (λ (j : ℕ). Room j y.map) on.atoms (subst (ClosedFor (table_sheet c n count) Q) e f).room

    pub opens :
        {m m' : List ℕ} {a : Option ℕ} → room_gate s m ≡ Ok o
        → ClosedFor (table_sheet c n count) (Holding (computed (table_sheet c n count))) x → Hands o.atoms x m m' a → Opens s m m' (Ok a)
    unfolding sheet_meant
    opens {m} {m'} {a} g f h =
        record {
          promise =
              upon_go s _ _ g
              (map_ends (sheet_meant s o) (Holding (computed (sheet_meant s o))) m m' x a (opened_on f) (room_goes s m g).room h.handed);
        }

    pub pins :
        {m m' : List ℕ} {i : Option ℕ} {a v : ℕ} → pin_gate s m a v ≡ Ok o → is_contradiction o.atoms m ≡ false
        → ClosedFor (table_sheet c n count) (Over (side n m) (signed (eqb v 1) a ∷ [])) x → Hands o.atoms x m m' i → Pins s m a v m' (Ok i)
    unfolding sheet_meant
    pins {m} {m'} {i} {a} {v} g none f h =
        record {
          promise =
              upon_go s _ _ g
              (subst
              (λ (b : Bool). PinEnds b (sheet_meant s o) m a v m' (Ok i))
              (sym none)
              (map_ends (sheet_meant s o) (PinAsks (sheet_meant s o) m a v) m m' x i (pinned_on m (signed (eqb v 1) a) f) (pin_goes s m a v g).lent.room
              h.handed));
        }

    pub tests :
        {m : List ℕ} {b : Bool} → test_gate s m ≡ Ok o
        → ClosedFor (table_sheet c n count) (Over (side n m) (computed (table_sheet c n count))) x → b ≡ is_some x → Tests s m (Ok b)
    unfolding sheet_meant
    tests {m} {b} g f e =
        record {
          promise =
              upon_go s _ _ g (subst (λ (y : Bool). TestEnds sh m (Ok y)) (sym e) (by x (held_on m f)));
        }
      where
        sh : Sheet
        sh = sheet_meant s o

        goes : Lent s m o × Whole o.atoms m
        goes = test_goes s m g

        ok : Numbered sh
        ok = numbered s sh (meant s o goes.0.accepted)

        by : (y : Option ClosedMap) → ClosedFor sh (Over (side o.atoms m) (computed sh)) y → TestEnds sh m (Ok (is_some y))
        by (Some y) l = closed_model ok m goes.1 l.least
        by None q = clash_no_model ok m goes.1 q

-- a map that the gate let through is one of the table's
pub on_map :
    {s m : List ℕ} {o : Outline} {c : List ℕ} {n count wanted : ℕ} {d : List ℕ} {k at : ℕ} → Stands s o wanted c n count d k at
    → MapBytes o.atoms m → MapBytes n m
on_map {m = m} on p = subst (λ (j : ℕ). MapBytes j m) (sym on.atoms) p

-- and so is the atom of the pin, which is the one that was asked for
pub on_atom :
    {s : List ℕ} {o : Outline} {c : List ℕ} {n count wanted : ℕ} {d : List ℕ} {k at a : ℕ} (v : ℕ) {put : Pin} → Stands s o wanted c n count d k at
    → pin_of a v ≡ put → Within o.atoms a → Within n put.atom.number
on_atom {n = n} {a = a} v on same w =
    subst (λ (p : Pin). Within n p.atom.number) same (subst (λ (j : ℕ). Within j a) (sym on.atoms) w)

pub pin_asked :
    {a : ℕ} (v : ℕ) {put : Pin} (sh : Sheet) (M : Map) (x : Option ClosedMap) → pin_of a v ≡ put
    → ClosedFor sh (Over M (signed put.inside put.atom.number ∷ [])) x → ClosedFor sh (Over M (signed (eqb v 1) a ∷ [])) x
pin_asked v sh M x same f = subst (λ (p : Pin). ClosedFor sh (Over M (signed p.inside p.atom.number ∷ [])) x) (sym same) f

-- the first model
module _
    {s m m' : List ℕ}
    {o : Outline}
    {c : List ℕ}
    {n count wanted : ℕ}
    {d : List ℕ}
    {k at : ℕ}
    {r : Option (List ℕ)}
    (on : Stands s o wanted c n count d k at)
    (g : room_gate s m ≡ Ok o)
    (f : FirstIn n (Model (table_sheet c n count)) r)
  where
    pub solves_model : {model : List ℕ} → r ≡ Some model → Room o.atoms model → m' ≡ first_bytes o.atoms model m → Solves s m m' (Ok ModelFound)
    unfolding sheet_meant
    solves_model {model} e room bytes =
        let (first, whole) = subst (FirstIn o.atoms (Model (sheet_meant s o))) e (performs_shuffled on.sheet no_rule no_rule (solving r) tt f) in
        record {
          promise =
              upon_go s _ _ g
              (subst
              (λ (x : List ℕ). SolveEnds (sheet_meant s o) m x (Ok ModelFound))
              (sym bytes)
              (record {
                first = subst (λ (M : Map). First (sheet_meant s o) (is 1 M)) (first_side o.atoms model m room) first;
                whole = λ i l. subst (Within 2) (sym (first_byte o.atoms model m room i l)) (whole i l);
                written = first_written o.atoms model m room (room_goes s m g).room;
              }));
        }

    pub solves_none : r ≡ None → m' ≡ threes o.atoms m → Solves s m m' (Ok NoneFound)
    unfolding sheet_meant
    solves_none e bytes =
        record { promise = upon_go s _ _ g (subst (FirstIn o.atoms (Model (sheet_meant s o))) e (performs_shuffled on.sheet no_rule no_rule (solving r) tt f), bytes) }

-- a rule that was let through
pub asked_place :
    {count number j : ℕ} {asked : RuleNo} → rule_of number ≡ asked → j ≡ asked.number → Within count number
    → (j ≡ number) × (1 ≤ j) × (j - 1 ≤ count - 1)
asked_place {count} {number} {j} {asked} same e w =
    let k : j ≡ number = e ∙ ap (λ (r : RuleNo). r.number) (sym same) in
    (k, omega (arith, k, w.low), omega (arith, k, w.high))

-- what is asked of a rule, on its row
asked_same :
    {s : List ℕ} {o : Outline} {number wanted : ℕ} {c : List ℕ} {n count : ℕ} {d : List ℕ} {k at : ℕ} → Stands s o wanted c n count d k at
    → wanted ≡ number - 1 → Within o.rules.value number → row_rule d at ≡ nth_rule (sheet_meant s o) number
asked_same {s} {o} on e w =
    on.row (omega (arith, e, w.low, w.high)) ∙ ap (λ (j : ℕ). get_or (sheet_meant s o).rules j no_rule) e

pub margins :
    {s m : List ℕ} {o : Outline} {number wanted : ℕ} {c : List ℕ} {n count : ℕ} {d : List ℕ} {k at : ℕ} {z : ℤ}
    → Stands s o wanted c n count d k at → wanted ≡ number - 1 → margin_gate s m number ≡ Ok o → z ≡ margin (row_rule d at) (side k m)
    → Margins s m number (Ok z)
unfolding sheet_meant
margins {s} {m} {o} {number} {d = d} {at = at} {z = z} on w g e =
    record {
      promise =
          upon_go s _ _ g
          (ap (λ (y : ℤ). Ok y)
          (performs_shuffled on.sheet (row_rule d at) (nth_rule (sheet_meant s o) number) (asking_margin m z)
          (asked_same on w (margin_goes s m number g).0)
          (e ∙ ap (λ (j : ℕ). margin (row_rule d at) (side j m)) (on.row_atoms ∙ sym on.atoms))));
    }

pub parts :
    {s : List ℕ} {o : Outline} {number wanted : ℕ} {c : List ℕ} {n count : ℕ} {d : List ℕ} {k at p i : ℕ} {x : Option ℕ}
    → Stands s o wanted c n count d k at → wanted ≡ number - 1 → part_gate s number ≡ Ok o → x ≡ part_of (row_rule d at) p i → Parts s number p i (Ok x)
parts {s} {o} {number} {d = d} {at = at} {p = p} {i = i} {x = x} on w g e =
    record {
      promise =
          upon_go s _ _ g
          (ap
          (λ (y : Option ℕ). Ok y)
          (performs_shuffled on.sheet (row_rule d at) (nth_rule (sheet_meant s o) number) (asking_part p i x)
          (asked_same on w (part_goes s number g).0)
          e));
    }

-- a pin on a contradiction
pub pins_stay : {s m : List ℕ} {a v : ℕ} {o : Outline} → pin_gate s m a v ≡ Ok o → is_contradiction o.atoms m ≡ true → Pins s m a v m (Ok None)
unfolding sheet_meant
pins_stay {s} {m} {a} {v} {o} g c =
    record { promise = upon_go s _ _ g (subst (λ (b : Bool). PinEnds b (sheet_meant s o) m a v m (Ok None)) (sym c) (refl, refl)) }

-- check, by the sheet that was read
pub checks_refused : (s : List ℕ) (why : Refusal) → sheet_read s ≡ Err why → Checks s (Err why)
checks_refused s why e = record { promise = upon_stop s _ _ why e refl }

pub checks_accepted :
    (s : List ℕ) (o : Outline) → sheet_read s ≡ Ok o → Checks s (Ok (record { atoms = o.atoms; rules = o.rules.value }))
unfolding sheet_meant
checks_accepted s o e =
    record { promise = upon_go s _ _ e (ap (λ (k : ℕ). Ok (record { atoms = o.atoms; rules = k })) (sym (sheet_ran s o e).count)) }

-- the calls that are stopped
module _ (s m : List ℕ) (why : Refusal) where
  pub opens_refused : room_gate s m ≡ Err why → Opens s m m (Err why)
  opens_refused e = record { promise = upon_stop s _ _ why e (refl, refl) }

  pub pins_refused : (a v : ℕ) → pin_gate s m a v ≡ Err why → Pins s m a v m (Err why)
  pins_refused a v e = record { promise = upon_stop s _ _ why e (refl, refl) }

  pub solves_refused : room_gate s m ≡ Err why → Solves s m m (Err why)
  solves_refused e = record { promise = upon_stop s _ _ why e (refl, refl) }

  pub tests_refused : test_gate s m ≡ Err why → Tests s m (Err why)
  tests_refused e = record { promise = upon_stop s _ _ why e refl }

  pub margins_refused : (k : ℕ) → margin_gate s m k ≡ Err why → Margins s m k (Err why)
  margins_refused k e = record { promise = upon_stop s _ _ why e refl }

pub parts_refused : (s : List ℕ) (why : Refusal) (k p i : ℕ) → part_gate s k ≡ Err why → Parts s k p i (Err why)
parts_refused s why k p i e = record { promise = upon_stop s _ _ why e refl }
