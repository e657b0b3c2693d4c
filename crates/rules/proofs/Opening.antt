-- Opening a sheet with pins, computed: pins and compute lists are written on a map of zeros, or two of them clash, and the map is
-- closed. So for every sheet and pins there is a least closed map or a contradiction.
use Prim.Native.Nat.{ℕ, zero, suc, ◌+◌, ◌-◌, ◌≤◌}
use mathlib.Core.Path.{◌≡◌, refl, sym, ◌∙◌, subst}
use mathlib.Core.Logic.{◌⊎◌, inl, inr, ⊎_elim}
use mathlib.Core.Bool.{Bool, true, false, not}
use mathlib.Core.List.Memᴰ
use mathlib.Core.List.{List, [], ◌∷◌, ◌++◌, map, Memᴰ}
use native.Mathlib.Omega.{arith}
use lib.ListN.{length, set, length-set, replicate, length-replicate, get_or-replicate}
use lib.Dec.{T, eqb}
use Rattle.rules.specs.Sum.{counted, tally}
use Rattle.rules.specs.Rule.{Sheet, Within}
use Rattle.rules.specs.Map.{Map, Literal, Holding, IsMap, side, want, ◌⊑◌, signed}
use Rattle.rules.specs.Forcing.{Least, Contradiction, Pinned, computed, Closed}
use Rattle.rules.proofs.Fits.{Numbered}
use Rattle.rules.proofs.Tests.{eq_T, T_eq, mem_has}
use Rattle.rules.proofs.Lists.{down_from}
use Rattle.rules.proofs.Members.{map_mem}
use Rattle.rules.proofs.Inside.{within?}
use Rattle.rules.proofs.Maps.{sides, want_decided, want_apart}
use Rattle.rules.proofs.Bytes.{side_at, side_beyond, written_same, written_above, written_below, written_map}
use Rattle.rules.proofs.Least.{holding_nil, holding_cons, least_same, contradiction_same}
use Rattle.rules.proofs.Closing.{Ending, closed_at, clash, closing, closing_right, Right}

abbrev zeros : ℕ → List ℕ
zeros n = replicate n 0

module _ (n : ℕ) where
  zeros_side : (a : ℕ) → side n (zeros n) a ≡ 0
  zeros_side a =
      ⊎_elim
      (λ (w : Within n a). side_at n (zeros n) a w ∙ get_or-replicate n (a - 1) 0 0 (omega (arith, w.low, w.high)))
      (λ o. side_beyond n (zeros n) a o)
      (within? n a)

  pub zeros_map : IsMap n (side n (zeros n))
  zeros_map = record { sides = λ a. omega (arith, zeros_side a); beyond = λ a _. zeros_side a }

  pub zeros_below : (X : Map) → side n (zeros n) ⊑ X
  zeros_below X = record { keeps = λ s a e. absurd (want_decided s (sym e ∙ zeros_side a)) }

abbrev if_held : Bool → Bool → Ending → Ending → Ending
if_held true b held open' = held
if_held false true held open' = open'
if_held false false held open' = clash

-- the pins written one after the other
unfoldable pub taking : ℕ → List ℕ → List Literal → Ending
taking n m [] = closed_at m
taking n m (p ∷ ps) =
    if_held
    (eqb (side n m p.atom) (want p.sign))
    (eqb (side n m p.atom) 0)
    (taking n m ps)
    (taking n (set m (p.atom - 1) (want p.sign)) ps)

pub record Taken (n : ℕ) (m : List ℕ) (ps : List Literal) (m' : List ℕ) : Type 0 where
  pub is_map : IsMap n (side n m')
  pub long : n ≤ length m'
  pub above : (X : Map) → side n m' ⊑ X → (side n m ⊑ X) × Holding ps X
  pub below : (X : Map) → side n m ⊑ X → Holding ps X → side n m' ⊑ X

abbrev TakenRight : ℕ → List ℕ → List Literal → Ending → Type 0
TakenRight n m ps (closed_at m') = Taken n m ps m'
TakenRight n m ps clash = (X : Map) → side n m ⊑ X → Holding ps X → ⊥

abbrev AllWithin : ℕ → List Literal → Type 0
AllWithin n ps = (p : Literal) → Memᴰ p ps → Within n p.atom

pub taking_right :
    (n : ℕ) (m : List ℕ) (ps : List Literal) → IsMap n (side n m) → n ≤ length m → AllWithin n ps → TakenRight n m ps (taking n m ps)
unfolding taking
taking_right n m [] mp long w =
    record { is_map = mp; long = long; above = λ X f. (f, holding_nil X); below = λ X f _. f }
taking_right n m (p ∷ ps) mp long w = step (eqb (side n m p.atom) (want p.sign)) (eqb (side n m p.atom) 0) refl refl (taking_right n m ps mp long (λ q i. w q (Memᴰ.tail i))) (taking_right n m' ps)
  where
    m' : List ℕ
    m' = set m (p.atom - 1) (want p.sign)

    here : Within n p.atom
    here = w p (Memᴰ.head refl)

    keep_on : side n m p.atom ≡ want p.sign → (e : Ending) → TakenRight n m ps e → TakenRight n m (p ∷ ps) e
    keep_on h (closed_at q) t =
        record {
          is_map = t.is_map;
          long = t.long;
          above =
              λ X f.
              let k = t.above X f in
              (k.0, holding_cons X p ps (k.0.keeps p.sign p.atom h) k.1);
          below = λ X f g. t.below X f (λ r i. g r (Memᴰ.tail i));
        }
    keep_on h clash t = λ X f g. t X f (λ r i. g r (Memᴰ.tail i))

    write_on : side n m p.atom ≡ 0 → (e : Ending) → TakenRight n m' ps e → TakenRight n m (p ∷ ps) e
    write_on z (closed_at q) t =
        record {
          is_map = t.is_map;
          long = t.long;
          above =
              λ X f.
              let k = t.above X f in
              let u = written_above n m p.atom here long (want p.sign) z in (
                record { keeps = λ s a e. k.0.keeps s a (u.keeps s a e) },
                holding_cons
                    X
                    p
                    ps
                    (k.0.keeps p.sign p.atom (written_same n m p.atom here long (want p.sign)))
                    k.1,
              );
          below =
              λ X f g.
              t.below
              X
              (written_below n m p.atom here long (want p.sign) X f (g p (Memᴰ.head refl)))
              (λ r i. g r (Memᴰ.tail i));
        }
    write_on z clash t =
        λ X f g.
        t
        X
        (written_below n m p.atom here long (want p.sign) X f (g p (Memᴰ.head refl)))
        (λ r i. g r (Memᴰ.tail i))

    apart : (side n m p.atom ≡ want p.sign → ⊥) → (side n m p.atom ≡ 0 → ⊥) → (X : Map) → side n m ⊑ X → Holding (p ∷ ps) X → ⊥
    apart f g X k h = case (sides (side n m p.atom) (mp.sides p.atom) p.sign)
      where
        case : (side n m p.atom ≡ 0) ⊎ ((side n m p.atom ≡ want p.sign) ⊎ (side n m p.atom ≡ want (not p.sign))) → ⊥
        case (inl e) = g e
        case (inr (inl e)) = f e
        case (inr (inr e)) =
            want_apart p.sign (sym (h p (Memᴰ.head refl)) ∙ k.keeps (not p.sign) p.atom e)

    step :
        (b c : Bool) → eqb (side n m p.atom) (want p.sign) ≡ b → eqb (side n m p.atom) 0 ≡ c
        → TakenRight n m ps (taking n m ps) → (IsMap n (side n m') → n ≤ length m' → AllWithin n ps → TakenRight n m' ps (taking n m' ps))
        → TakenRight n m (p ∷ ps) (if_held b c (taking n m ps) (taking n m' ps))
    step true c e k held open' = keep_on (T_eq (subst T (sym e) tt)) (taking n m ps) held
    step false true e k held open' =
        write_on
        (T_eq (subst T (sym k) tt))
        (taking n m' ps)
        (open'
        (written_map n m p.atom here long p.sign mp)
        (omega (arith, length-set m (p.atom - 1) (want p.sign), long))
        (λ q i. w q (Memᴰ.tail i)))
    step false false e k held open' = apart (λ h. subst T e (eq_T h)) (λ h. subst T k (eq_T h))

abbrev then : Ending → (List ℕ → Ending) → Ending
then (closed_at m) f = f m
then clash f = clash

-- the map after opening a sheet and pinning
unfoldable pub opening : Sheet → List Literal → Ending
opening sh ps =
    then (taking sh.atoms (zeros sh.atoms) (computed sh ++ ps)) (λ m. closing sh.rules sh.atoms (suc sh.atoms) m)

abbrev pub Opened : Sheet → List Literal → Ending → Type 0
Opened sh ps (closed_at m) = Least (Closed sh.rules sh.atoms) (Pinned sh ps) (side sh.atoms m) × (sh.atoms ≤ length m)
Opened sh ps clash = Contradiction (Closed sh.rules sh.atoms) (Pinned sh ps)

-- there are at most n undecided atoms
pub few : (k : ℕ) (p : ℕ → Bool) → tally p (λ _. 1) (down_from k) ≤ k
unfolding tally
few zero p = omega arith
few (suc k) p = step (p (suc k)) (few k p)
  where
    step : (b : Bool) → tally p (λ _. 1) (down_from k) ≤ k → counted b 1 + tally p (λ _. 1) (down_from k) ≤ suc k
    step true h = omega arith
    step false h = omega arith

module _ {sh : Sheet} (ok : Numbered sh) (ps : List Literal) (w : AllWithin sh.atoms ps) where
  abbrev n : ℕ
  n = sh.atoms

  computed_within : AllWithin n (computed sh)
  computed_within p i =
      ⊎_elim
      (λ (j : Memᴰ p (map (signed true) sh.compute_in)).
      let t = map_mem (signed true) sh.compute_in j in
      subst (λ (q : Literal). Within n q.atom) (sym t.2) (ok.compute_in t.0 (mem_has t.1)))
      (λ (j : Memᴰ p (map (signed false) sh.compute_out)).
      let t = map_mem (signed false) sh.compute_out j in
      subst (λ (q : Literal). Within n q.atom) (sym t.2) (ok.compute_out t.0 (mem_has t.1)))
      (Memᴰ.append_cases (map (signed true) sh.compute_in) i)

  all_within : AllWithin n (computed sh ++ ps)
  all_within p i = ⊎_elim (computed_within p) (w p) (Memᴰ.append_cases (computed sh) i)

  pub opening_right : Opened sh ps (opening sh ps)
  unfolding opening
  opening_right = step (taking n (zeros n) (computed sh ++ ps)) (taking_right n (zeros n) (computed sh ++ ps) (zeros_map n) (omega (arith, length-replicate {A = ℕ} n 0)) all_within)
    where
      finish : (m : List ℕ) → Taken n (zeros n) (computed sh ++ ps) m → (e : Ending) → Right sh.rules n m e → Opened sh ps e
      finish m t (closed_at q) r = (
        least_same
            (λ X. side n m ⊑ X)
            (Pinned sh ps)
            (λ X f. (t.above X f).1)
            (λ X h. t.below X (zeros_below n X) h)
            r.0,
        omega (arith, r.1, t.long),
      )
      finish m t clash r =
          contradiction_same (λ X. side n m ⊑ X) (Pinned sh ps) (λ X h. t.below X (zeros_below n X) h) r

      step :
          (e : Ending) → TakenRight n (zeros n) (computed sh ++ ps) e → Opened sh ps (then e (λ m. closing sh.rules n (suc n) m))
      step (closed_at m) t =
          finish
          m
          t
          (closing sh.rules n (suc n) m)
          (closing_right sh.rules n ok.rules (suc n) m t.is_map t.long (omega (arith, few n (λ a. eqb (side n m a) 0))))
      step clash t = λ X x h. t X (zeros_below n X) h

  -- one of the two there is
  pub least_or_none :
      ((M : Map) × Least (Closed sh.rules n) (Pinned sh ps) M) ⊎ Contradiction (Closed sh.rules n) (Pinned sh ps)
  least_or_none = step (opening sh ps) opening_right
    where
      step :
          (e : Ending) → Opened sh ps e
          → ((M : Map) × Least (Closed sh.rules n) (Pinned sh ps) M) ⊎ Contradiction (Closed sh.rules n) (Pinned sh ps)
      step (closed_at m) r = inl (side n m, r.0)
      step clash r = inr r
