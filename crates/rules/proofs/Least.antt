-- The least closed map, whatever closed means: there is at most one, and not beside a contradiction. What is asked may be asked at
-- once or one pin after the other: each closed map above the least one holds what that one holds.
use Prim.Native.Nat.{ℕ}
use mathlib.Core.Path.{◌≡◌, refl, sym, subst}
use mathlib.Core.Logic.{⊎_elim}
use mathlib.Core.Bool.{Bool}
use mathlib.Core.List.Memᴰ
use mathlib.Core.List.{List, [], ◌∷◌, ◌++◌, Memᴰ}
use Rattle.rules.specs.Rule.{Rule, SameSet}
use Rattle.rules.specs.Map.{Map, Literal, IsMap, Holding, Over, signed, want, ◌⊑◌}
use Rattle.rules.specs.Forcing.{Closed, Least, Contradiction}
use Rattle.rules.proofs.Maps.{⊑_antisym, ⊑_refl}

pub holding_nil : (M : Map) → Holding [] M
holding_nil M p m = absurd (Memᴰ.not-nil m)

pub holding_cons : (M : Map) (p : Literal) (ps : List Literal) → M p.atom ≡ want p.sign → Holding ps M → Holding (p ∷ ps) M
holding_cons M p ps e h q m =
    ⊎_elim
    (λ (k : q ≡ p). subst (λ (x : Literal). M x.atom ≡ want x.sign) (sym k) e)
    (λ (k : Memᴰ q ps). h q k)
    (Memᴰ.cases_cons m)

pub holding_append : (M : Map) (ps qs : List Literal) → Holding ps M → Holding qs M → Holding (ps ++ qs) M
holding_append M ps qs f g p m =
    ⊎_elim (λ (k : Memᴰ p ps). f p k) (λ (k : Memᴰ p qs). g p k) (Memᴰ.append_cases ps m)

pub holding_left : (M : Map) (ps qs : List Literal) → Holding (ps ++ qs) M → Holding ps M
holding_left M ps qs h p m = h p (Memᴰ.append_left qs m)

pub holding_right : (M : Map) (ps qs : List Literal) → Holding (ps ++ qs) M → Holding qs M
holding_right M ps qs h p m = h p (Memᴰ.append_right ps m)

-- what a map holds, every map above it holds
pub holding_up : {M X : Map} (ps : List Literal) → M ⊑ X → Holding ps M → Holding ps X
holding_up ps f h p m = f.keeps p.sign p.atom (h p m)

-- one literal over a map
pub over_one : {M X : Map} (s : Bool) (a : ℕ) → M ⊑ X → X a ≡ want s → Over M (signed s a ∷ []) X
over_one {X = X} s a f e = record { above = f; holds = holding_cons X (signed s a) [] e (holding_nil X) }

pub over_at : {M X : Map} (s : Bool) (a : ℕ) → Over M (signed s a ∷ []) X → X a ≡ want s
over_at s a q = q.holds (signed s a) (Memᴰ.head refl)

module _ {Good : Map → Type 0} where
  pub least_one :
      {n : ℕ} → ((M : Map) → Good M → IsMap n M) → {Q : Map → Type 0} {M M' : Map} → Least Good Q M → Least Good Q M'
      → (a : ℕ) → M a ≡ M' a
  least_one maps {M = M} {M' = M'} l l' a =
      ⊑_antisym
      (maps M l.closed)
      (maps M' l'.closed)
      (l.below M' l'.closed l'.holding)
      (l'.below M l.closed l.holding)
      a

  -- never both
  pub least_or_contradiction : {Q : Map → Type 0} {M : Map} → Least Good Q M → Contradiction Good Q → ⊥
  least_or_contradiction {M = M} l c = c M l.closed l.holding

  -- two ways to ask the same have the same answer
  pub least_same :
      (Q Q' : Map → Type 0) → ((X : Map) → Q X → Q' X) → ((X : Map) → Q' X → Q X) → {M : Map} → Least Good Q M → Least Good Q' M
  least_same Q Q' f g {M} l =
      record { closed = l.closed; holding = f M l.holding; below = λ X x q. l.below X x (g X q) }

  pub contradiction_same : (Q Q' : Map → Type 0) → ((X : Map) → Q' X → Q X) → Contradiction Good Q → Contradiction Good Q'
  contradiction_same Q Q' g c X x q = c X x (g X q)

  -- two meanings of closed that agree have the same answer
  module _ {Good' : Map → Type 0} (onto : (X : Map) → Good X → Good' X) (back : (X : Map) → Good' X → Good X) where
    pub least_alike : {Q : Map → Type 0} {M : Map} → Least Good Q M → Least Good' Q M
    least_alike {M = M} l =
        record { closed = onto M l.closed; holding = l.holding; below = λ X x q. l.below X (back X x) q }

    pub contradiction_alike : {Q : Map → Type 0} → Contradiction Good Q → Contradiction Good' Q
    contradiction_alike c X x q = c X (back X x) q

  -- a pin, or several, after the least map of what was held before: as if asked at once
  module _ (qs ps : List Literal) {M : Map} (l : Least Good (Holding qs) M) where
    pub pins_after : {M' : Map} → Least Good (Over M ps) M' → Least Good (Holding (qs ++ ps)) M'
    pins_after {M'} k =
        record {
          closed = k.closed;
          holding = holding_append M' qs ps (holding_up qs k.holding.above l.holding) k.holding.holds;
          below = λ X x h. k.below X x (over X x h);
        }
      where
        over : (X : Map) → Good X → Holding (qs ++ ps) X → Over M ps X
        over X x h = record { above = l.below X x (holding_left X qs ps h); holds = holding_right X qs ps h }

    pub contradiction_after : Contradiction Good (Over M ps) → Contradiction Good (Holding (qs ++ ps))
    contradiction_after c X x h =
        c X x (record { above = l.below X x (holding_left X qs ps h); holds = holding_right X qs ps h })

  -- a pin that the least map holds already changes nothing
  pub pin_held : (M : Map) (ps : List Literal) → Good M → Holding ps M → Least Good (Over M ps) M
  pin_held M ps x h =
      record { closed = x; holding = record { above = ⊑_refl M; holds = h }; below = λ X _ q. q.above }

pub least_unique :
    {P : List Rule} {n : ℕ} {Q : Map → Type 0} {M M' : Map} → Least (Closed P n) Q M → Least (Closed P n) Q M' → (a : ℕ) → M a ≡ M' a
least_unique = least_one (λ M x. x.is_map)

pub holding_set : {ps ps' : List Literal} → SameSet ps ps' → (X : Map) → Holding ps X → Holding ps' X
holding_set k X h p m = h p (k.back p m)
