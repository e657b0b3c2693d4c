-- Steps compose: what follows from a map follows from every map above it, so what one step adds after another is forced from
-- where the first began.
use Prim.Native.Nat.{ℕ, ◌+◌, ◌-◌, ◌≤◌, ◌<◌}
use mathlib.Core.Path.{◌≡◌, refl, sym, ◌∙◌, subst}
use mathlib.Core.Bool.{Bool, true, false, false≢true, ◌||◌}
use mathlib.Core.Logic.{⊎_elim}
use mathlib.Core.List.{List}
use native.Mathlib.Nat.{eq-or-lt_of_le}
use native.Mathlib.Omega.{arith}
use lib.ListN.{set, length-set}
use lib.Seq.{get_or-set_other}
use Rattle.rules.specs.Rule.{Within}
use Rattle.rules.specs.Map.{Map, side, want, ◌⊑◌}
use Rattle.rules.specs.Inner.Bytes.{MapBytes}
use Rattle.rules.proofs.Maps.{⊑_refl, ⊑_trans, sides}
use Rattle.rules.proofs.Bytes.{written_above, written_below}
use Rattle.std.specs.Prelude.{Result, Ok, Err, IsErr}
use Rattle.weigh.specs.Inner.Step.{Forces, Clashes, Concludes, Kept, Grown, Outcome, Went, Step, Till, Decided, Puts}
use Rattle.weigh.specs.declared.Clash.{Clash}
use Rattle.weigh.proofs.Bytes.{proper_map, proper_put, fewer_put}

-- what a step comes to where those before it added something or nothing
abbrev pub after : Bool → Outcome → Outcome
after r (Err e) = Err e
after r (Ok q) = Ok (r || q)

-- there is one clash
pub clashed : {T : Type 0} (r : Result T Clash) → IsErr r → r ≡ Err (record {})
clashed (Err _) e = refl
clashed (Ok _) e = absurd (false≢true e)

pub kept_refl : (n : ℕ) (m : List ℕ) → MapBytes n m → Kept n m m
kept_refl n m p = record { proper = p; long = refl; past = λ i h. refl }

pub kept_trans : (n : ℕ) (m m' m'' : List ℕ) → Kept n m m' → Kept n m' m'' → Kept n m m''
kept_trans n m m' m'' k l =
    record { proper = l.proper; long = l.long ∙ k.long; past = λ i h. l.past i h ∙ k.past i h }

module _ (n : ℕ) (m : List ℕ) (a v : ℕ) (p : MapBytes n m) (w : Within n a) (d : Decided v) where
  pub kept_put : (m' : List ℕ) (r : Outcome) → Puts n m a v m' r → Kept n m m'
  kept_put m' (Err _) s = subst (Kept n m) (sym s.put.0) (kept_refl n m p)
  kept_put m' (Ok false) s = subst (Kept n m) (sym s.put.0) (kept_refl n m p)
  kept_put m' (Ok true) s =
      subst (Kept n m) (sym s.put.0)
      (record {
        proper = proper_put n m a v w d.high p;
        long = length-set m (a - 1) v;
        past = λ i h. get_or-set_other m (a - 1) i v 0 (λ e. omega arith);
      })

module _ (Good : Map → Type 0) where
  pub forces_trans : {M M' M'' : Map} → Forces Good M M' → Forces Good M' M'' → Forces Good M M''
  forces_trans f g = record { keeps = ⊑_trans f.keeps g.keeps; sound = λ X x h. g.sound X x (f.sound X x h) }

  -- a clash after forcing is one before it
  pub clashes_back : {M M' : Map} → Forces Good M M' → Clashes Good M' → Clashes Good M
  clashes_back f c = record { none = λ X x h. c.none X x (f.sound X x h) }

  -- what follows from a map follows from those above it
  pub concludes_on : {M M' : Map} {a v : ℕ} → M ⊑ M' → Concludes Good M a v → Concludes Good M' a v
  concludes_on h c = record { forced = λ X x f. c.forced X x (⊑_trans h f) }

  module _ (n : ℕ) where
    pub step_same : (Q : Map → Type 0) (m : List ℕ) → MapBytes n m → Q (side n m) → Step Good n Q m m (Ok false)
    step_same Q m p q = record { kept = kept_refl n m p; went = (refl, q) }

    -- a step in whose outcome nothing is lost reads as one that is quiet for something weaker
    pub quieter :
        (Q Q' : Map → Type 0) (m m' : List ℕ) (r : Outcome) → (Q (side n m) → Q' (side n m)) → Step Good n Q m m' r
        → Step Good n Q' m m' r
    quieter Q Q' m m' (Err _) f s = record { kept = s.kept; went = s.went }
    quieter Q Q' m m' (Ok false) f s = record { kept = s.kept; went = (s.went.0, f s.went.1) }
    quieter Q Q' m m' (Ok true) f s = record { kept = s.kept; went = s.went }

    -- a clash is not quiet for anything
    pub clash_any : (Q Q' : Map → Type 0) (m m' : List ℕ) {e : Clash} → Step Good n Q m m' (Err e) → Step Good n Q' m m' (Err e)
    clash_any Q Q' m m' s = record { kept = s.kept; went = s.went }

    -- nor is it one that what is put afterwards takes away
    pub clash_on :
        (Q Q' : Map → Type 0) (m m' m'' : List ℕ) {e : Clash} → Step Good n Q m m' (Err e) → Kept n m' m'' → Step Good n Q' m m'' (Err e)
    clash_on Q Q' m m' m'' s k = record { kept = kept_trans n m m' m'' s.kept k; went = s.went }

    grown : (m m' m'' : List ℕ) → Grown Good n m m' → Grown Good n m' m'' → Grown Good n m m''
    grown m m' m'' g h = record { forces = forces_trans g.forces h.forces; fewer = omega (arith, g.fewer, h.fewer) }

    module _ (Q Q' : Map → Type 0) (m m' m'' : List ℕ) where
      went_joined :
          (r : Bool) (q : Outcome) → Went Good n Q m m' (Ok r) → (side n m ⊑ side n m' → Went Good n Q' m' m'' q)
          → Went Good n (λ M. Q M × Q' M) m m'' (after r q)
      went_joined false q f g =
          still q
          (subst (λ (x : List ℕ). Went Good n Q' x m'' q) f.0
          (g (subst (λ (x : List ℕ). side n m ⊑ side n x) (sym f.0) (⊑_refl (side n m)))))
        where
          still : (q : Outcome) → Went Good n Q' m m'' q → Went Good n (λ M. Q M × Q' M) m m'' (after false q)
          still (Err _) w = w
          still (Ok false) w = (w.0, (f.1, w.1))
          still (Ok true) w = w
      went_joined true (Err _) f g = clashes_back f.forces (g f.forces.keeps)
      went_joined true (Ok false) f g = subst (λ (x : List ℕ). Grown Good n m x) (sym (g f.forces.keeps).0) f
      went_joined true (Ok true) f g = grown m m' m'' f (g f.forces.keeps)

      -- one step and then another, which may go by what the map held before the first
      pub step_joined :
          (r : Bool) (q : Outcome) → Step Good n Q m m' (Ok r) → Kept n m' m'' → (side n m ⊑ side n m' → Step Good n Q' m' m'' q)
          → Step Good n (λ M. Q M × Q' M) m m'' (after r q)
      step_joined r q s k t =
          record { kept = kept_trans n m m' m'' s.kept k; went = went_joined r q s.went (λ h. (t h).went) }

    -- a run of steps goes on by one
    till_more : (Q : ℕ → Map → Type 0) (from j : ℕ) (M : Map) → Till Q from j M × Q j M → Till Q from (j + 1) M
    till_more Q from j M t k l h =
        ⊎_elim (λ (e : k ≡ j). subst (λ (x : ℕ). Q x M) (sym e) t.1) (λ (b : k < j). t.0 k l b) (eq-or-lt_of_le (omega arith))

    pub steps_more :
        (Q : ℕ → Map → Type 0) (from j : ℕ) (m m' m'' : List ℕ) (r : Bool) (q : Outcome) → Step Good n (Till Q from j) m m' (Ok r)
        → Kept n m' m'' → (side n m ⊑ side n m' → Step Good n (Q j) m' m'' q) → Step Good n (Till Q from (j + 1)) m m'' (after r q)
    steps_more Q from j m m' m'' r q s k t =
        quieter (λ M. Till Q from j M × Q j M) (Till Q from (j + 1)) m m'' (after r q) (till_more Q from j (side n m))
        (step_joined (Till Q from j) (Q j) m m' m'' r q s k t)

    pub steps_end :
        (Q : ℕ → Map → Type 0) (from to j : ℕ) (m m' : List ℕ) (r : Outcome) → to ≤ j → Step Good n (Till Q from j) m m' r
        → Step Good n (Till Q from to) m m' r
    steps_end Q from to j m m' r h s = quieter (Till Q from j) (Till Q from to) m m' r (λ t k l b. t k l (omega arith)) s

    module _ (m : List ℕ) (a v : ℕ) (p : MapBytes n m) (w : Within n a) (d : Decided v) (c : Concludes Good (side n m) a v) where
      -- an atom that has to be on one side is on the other
      clashes : (side n m a ≡ v → ⊥) → (side n m a ≡ 0 → ⊥) → Clashes Good (side n m)
      clashes f z =
          record {
            none = λ X x h. ⊎_elim z (⊎_elim (held X x h true) (held X x h false))
                (sides (side n m a) ((proper_map n m p).sides a) true);
          }
        where
          held : (X : Map) → Good X → side n m ⊑ X → (s : Bool) → side n m a ≡ want s → ⊥
          held X x h s e = f (e ∙ sym (h.keeps s a e) ∙ c.forced X x h)

      forces : side n m a ≡ 0 → Forces Good (side n m) (side n (set m (a - 1) v))
      forces z =
          record {
            keeps = written_above n m a w p.room v z;
            sound = λ X g f. written_below n m a w p.room v X f (c.forced X g f);
          }

      -- putting an atom on the side where it has to be
      pub step_put : (m' : List ℕ) (r : Outcome) → Puts n m a v m' r → Step Good n (λ M. M a ≡ v) m m' r
      step_put m' (Err e) s =
          record { kept = kept_put n m a v p w d m' (Err e) s; went = clashes s.put.1.0 s.put.1.1 }
      step_put m' (Ok false) s = record { kept = kept_put n m a v p w d m' (Ok false) s; went = s.put }
      step_put m' (Ok true) s =
          record {
            kept = kept_put n m a v p w d m' (Ok true) s;
            went =
                subst (Grown Good n m) (sym s.put.0)
                (record { forces = forces s.put.1; fewer = fewer_put n m a v w p.room s.put.1 (λ e. omega arith) });
          }
