-- The search for the first model, computed: the lowest undecided atom is tried in, then out, each closed first. Every closed map on
-- the way decides at least one atom more, so there are no more guesses in a row than undecided atoms.
use Prim.Native.Nat.{ℕ, zero, suc, ◌-◌, ◌≤◌, ◌<◌}
use mathlib.Core.Path.{◌≡◌, refl, sym, ◌∙◌, subst, ap}
use mathlib.Core.Logic.{◌⊎◌, inl, inr, ⊎_elim}
use mathlib.Core.Bool.{Bool, true, false, cond}
use mathlib.Core.List.Memᴰ
use mathlib.Core.List.{List, [], ◌++◌, ◌∷◌}
use native.Mathlib.Omega.{arith}
use native.Mathlib.Nat.{not-suc-le-zero, eq-or-lt_of_le}
use lib.ListN.{length, set, length-set}
use lib.Dec.{T, eqb}
use Rattle.rules.specs.Rule.{Rule, Sheet, Within}
use Rattle.rules.specs.Stable.{Set, FirstOf, First, NoModel}
use Rattle.rules.specs.Map.{Map, Holding, Over, IsMap, side, signed, want, is, total, ◌⊑◌}
use Rattle.rules.specs.Forcing.{Closed, Least, Pinned, computed}
use Rattle.rules.specs.Inner.Search.{ModelOver, Branch}
use Rattle.rules.proofs.Fits.{Numbered}
use Rattle.rules.proofs.Tests.{eq_T, T_eq}
use Rattle.rules.proofs.Sum.{tally_mono}
use Rattle.rules.proofs.Lists.{down_from}
use Rattle.rules.proofs.Maps.{sides, want_decided}
use Rattle.rules.proofs.Bytes.{over_written, written_over, written_map}
use Rattle.rules.proofs.Least.{holding_nil, holding_append, holding_up, holding_left, least_same, contradiction_same}
use Rattle.rules.proofs.Models.{model_closed, model_holding}
use Rattle.rules.proofs.First.{Lowest, try_in, try_out, try_none, branch_first, branch_none, branch_clash, leaf, first_above, none_at_all}
use Rattle.rules.proofs.Closing.{Ending, closed_at, clash, closing, closing_right, open_count, undecided_falls, Right}
use Rattle.rules.proofs.Opening.{few, opening, opening_right, Opened}

abbrev or_next : ℕ → ℕ → ℕ
or_next zero b = b
or_next (suc a) b = suc a

-- the lowest undecided atom up to k, or 0
unfoldable pub lowest : Map → ℕ → ℕ
lowest M zero = zero
lowest M (suc k) = or_next (lowest M k) (cond (eqb (M (suc k)) 0) (suc k) 0)

abbrev LowestRight : Map → ℕ → ℕ → Type 0
LowestRight M k zero = (a : ℕ) → Within k a → M a ≡ 0 → ⊥
LowestRight M k (suc a) = Lowest k M (suc a)

lowest_right : (M : Map) (k : ℕ) → LowestRight M k (lowest M k)
unfolding lowest
lowest_right M zero = λ a w e. absurd (omega (arith, w.low, w.high))
lowest_right M (suc k) = step (lowest M k) (lowest_right M k)
  where
    within_up : (a : ℕ) → Within (suc k) a → (a ≡ suc k) ⊎ Within k a
    within_up a w =
        ⊎_elim
        (λ (e : a ≡ suc k). inl e)
        (λ (l : a < suc k). inr (record { low = w.low; high = omega (arith, l) }))
        (eq-or-lt_of_le w.high)

    here : LowestRight M k zero → (b : Bool) → eqb (M (suc k)) 0 ≡ b → LowestRight M (suc k) (cond b (suc k) 0)
    here none true e =
        record {
          within = record { low = omega arith; high = omega arith };
          undecided = T_eq (subst T (sym e) tt);
          lower = λ b w l z. none b (record { low = w.low; high = omega (arith, l) }) z;
        }
    here none false e =
        λ a w z.
        ⊎_elim
        (λ (q : a ≡ suc k). subst T e (eq_T (sym (ap M q) ∙ z)))
        (λ (v : Within k a). none a v z)
        (within_up a w)

    step : (a : ℕ) → LowestRight M k a → LowestRight M (suc k) (or_next a (cond (eqb (M (suc k)) 0) (suc k) 0))
    step zero none = here none (eqb (M (suc k)) 0) refl
    step (suc a) l =
        record {
          within = record { low = l.within.low; high = omega (arith, l.within.high) };
          undecided = l.undecided;
          lower = λ b w lt z. l.lower b (record { low = w.low; high = omega (arith, lt, l.within.high) }) lt z;
        }

pub data SearchAnswer : Type 0 where
  model : List ℕ → SearchAnswer
  no_model : SearchAnswer

abbrev or_else : SearchAnswer → (ℕ → SearchAnswer) → ℕ → SearchAnswer
or_else (model m) f a = model m
or_else no_model f a = f a

abbrev on_closed : Ending → (List ℕ → SearchAnswer) → SearchAnswer
on_closed (closed_at m) f = f m
on_closed clash f = no_model

module _ (P : List Rule) (n : ℕ) where
  abbrev guess : Bool → List ℕ → ℕ → List ℕ
  guess s m a = set m (a - 1) (want s)

  abbrev at : (List ℕ → SearchAnswer) → List ℕ → ℕ → SearchAnswer
  at f m zero = model m
  at f m (suc a) =
      or_else (on_closed (closing P n (suc n) (guess true m (suc a))) f) (λ b. on_closed (closing P n (suc n) (guess false m b)) f) (suc a)

  unfoldable pub searching : ℕ → List ℕ → SearchAnswer
  searching zero m = no_model
  searching (suc k) m = at (λ q. searching k q) m (lowest (side n m) n)

-- fewer undecided atoms above
undecided_mono : (n : ℕ) (m q : List ℕ) → side n m ⊑ side n q → IsMap n (side n m) → open_count n q ≤ open_count n m
undecided_mono n m q f mp =
    tally_mono
    (λ a. eqb (side n q a) 0)
    (λ a. eqb (side n m a) 0)
    (λ _. 1)
    (down_from n)
    (λ a _ t. step a (T_eq t) (sides (side n m a) (mp.sides a) true))
  where
    step : (a : ℕ) → side n q a ≡ 0 → (side n m a ≡ 0) ⊎ ((side n m a ≡ 1) ⊎ (side n m a ≡ 2)) → T (eqb (side n m a) 0)
    step a z (inl e) = eq_T e
    step a z (inr (inl e)) = absurd (want_decided true (sym (f.keeps true a e) ∙ z))
    step a z (inr (inr e)) = absurd (want_decided false (sym (f.keeps false a e) ∙ z))

module _ {sh : Sheet} (ok : Numbered sh) where
  abbrev n : ℕ
  n = sh.atoms

  abbrev P : List Rule
  P = sh.rules

  -- the answer for the models that satisfy Q
  abbrev FoundRight : (Set → Type 0) → SearchAnswer → Type 0
  FoundRight Q (model m) = FirstOf Q (is 1 (side n m))
  FoundRight Q no_model = (X : Set) → Q X → ⊥

  abbrev Searched : ℕ → Type 0
  Searched k =
      (m : List ℕ) → Closed P n (side n m) → Holding (computed sh) (side n m) → n ≤ length m → open_count n m < k
      → FoundRight (ModelOver sh (side n m)) (searching P n k m)

  module _ (k : ℕ) (rec : Searched k) (m : List ℕ) (x : Closed P n (side n m)) (held : Holding (computed sh) (side n m)) (long : n ≤ length m) (less : open_count n m < suc k) where
    abbrev M : Map
    M = side n m

    module _ (a : ℕ) (low : Lowest n (side n m) a) where
      module _ (s : Bool) where
        abbrev g : List ℕ
        g = guess P n s m a

        asked : (X : Map) → side n g ⊑ X → Over M (signed s a ∷ []) X
        asked = over_written n m a low.within long s low.undecided

        answered : (X : Map) → Over M (signed s a ∷ []) X → side n g ⊑ X
        answered = written_over n m a low.within long s low.undecided

        pass : (q : List ℕ) → Least (Closed P n) (Over M (signed s a ∷ [])) (side n q) → (f : SearchAnswer) → FoundRight (ModelOver sh (side n q)) f → FoundRight (Branch sh M a s) f
        pass q l (model r) h = branch_first ok M a low.within s l h
        pass q l no_model h = branch_none ok M a low.within s l h

        branch : FoundRight (Branch sh M a s) (on_closed (closing P n (suc n) g) (λ q. searching P n k q))
        branch =
            step
            (closing P n (suc n) g)
            (closing_right
            P
            n
            ok.rules
            (suc n)
            g
            (written_map n m a low.within long s x.is_map)
            (omega (arith, length-set m (a - 1) (want s), long))
            (omega (arith, few n (λ b. eqb (side n g b) 0))))
          where
            step : (e : Ending) → Right P n g e → FoundRight (Branch sh M a s) (on_closed e (λ q. searching P n k q))
            step (closed_at q) r =
                let l : Least (Closed P n) (Over M (signed s a ∷ [])) (side n q) = least_same (λ X. side n g ⊑ X) (Over M (signed s a ∷ [])) asked answered r.0 in
                pass
                q
                l
                (searching P n k q)
                (rec
                q
                l.closed
                (holding_up (computed sh) l.holding.above held)
                (omega (arith, r.1, length-set m (a - 1) (want s), long))
                (omega (
                  arith,
                  undecided_mono n g q r.0.holding (written_map n m a low.within long s x.is_map),
                  undecided_falls
                      n
                      m
                      a
                      low.within
                      long
                      s
                      low.undecided,
                  less,
                )))
            step clash r =
                branch_clash ok M a low.within s (contradiction_same (λ Y. side n g ⊑ Y) (Over M (signed s a ∷ [])) answered r)

      otherwise : ((X : Set) → Branch sh M a true X → ⊥) → (f : SearchAnswer) → FoundRight (Branch sh M a false) f → FoundRight (ModelOver sh M) f
      otherwise none (model r) h = try_out ok x.is_map low none h
      otherwise none no_model h = try_none ok x.is_map low none h

      both :
          (f : SearchAnswer) (f' : ℕ → SearchAnswer) → FoundRight (Branch sh M a true) f → FoundRight (Branch sh M a false) (f' a)
          → FoundRight (ModelOver sh M) (or_else f f' a)
      both (model r) f' h h' = try_in ok x.is_map low h
      both no_model f' h h' = otherwise h (f' a) h'

    found : (a : ℕ) → LowestRight (side n m) n a → FoundRight (ModelOver sh M) (at P n (λ q. searching P n k q) m a)
    found zero none = leaf ok x none held
    found (suc a) low =
        both
        (suc a)
        low
        (on_closed (closing P n (suc n) (guess P n true m (suc a))) (λ q. searching P n k q))
        (λ b. on_closed (closing P n (suc n) (guess P n false m b)) (λ q. searching P n k q))
        (branch (suc a) low true)
        (branch (suc a) low false)

  pub searching_right : (k : ℕ) → Searched k
  unfolding searching
  searching_right zero m x held long less = absurd (not-suc-le-zero less)
  searching_right (suc k) m x held long less =
      found k (searching_right k) m x held long less (lowest (side n m) n) (lowest_right (side n m) n)

-- the first model of a sheet
unfoldable pub solving : Sheet → SearchAnswer
solving sh = on_closed (opening sh []) (λ m. searching sh.rules sh.atoms (suc sh.atoms) m)

abbrev pub Solved : Sheet → SearchAnswer → Type 0
Solved sh (model m) = First sh (is 1 (side sh.atoms m))
Solved sh no_model = NoModel sh

pub solving_right : {sh : Sheet} → Numbered sh → Solved sh (solving sh)
unfolding solving
solving_right {sh} ok = step (opening sh []) (opening_right ok [] (λ p i. absurd (Memᴰ.not-nil i)))
  where
    n : ℕ
    n = sh.atoms

    whole : (X : Map) → Holding (computed sh) X → Holding (computed sh ++ []) X
    whole X h = holding_append X (computed sh) [] h (holding_nil X)

    finish :
        (m : List ℕ) → Least (Closed sh.rules n) (Holding (computed sh)) (side n m) → (f : SearchAnswer) → FoundRight ok (ModelOver sh (side n m)) f
        → Solved sh f
    finish m l (model q) h = first_above ok l h
    finish m l no_model h = λ X md. h X (md, l.below (total n X) (model_closed ok md) (model_holding ok md))

    step : (e : Ending) → Opened sh [] e → Solved sh (on_closed e (λ m. searching sh.rules n (suc n) m))
    step (closed_at m) r =
        let
        l : Least (Closed sh.rules n) (Holding (computed sh)) (side n m)
        = least_same (Pinned sh []) (Holding (computed sh)) (λ X h. holding_left X (computed sh) [] h) whole r.0
        in
        finish
        m
        l
        (searching sh.rules n (suc n) m)
        (searching_right
        ok
        (suc n)
        m
        l.closed
        l.holding
        r.1
        (omega (arith, few n (λ b. eqb (side n m b) 0))))
    step clash r = λ X md. none_at_all ok (contradiction_same (Pinned sh []) (Holding (computed sh)) whole r) X md
