-- A map of 1s and 2s decides every atom, so a closed map above it that holds the compute lists is itself, whose in-atoms are an agreeing
-- stable model; and the total map of such a model would be a closed map above it.
use Prim.Native.Nat.{ℕ, ◌-◌}
use mathlib.Core.Path.{◌≡◌, sym, ◌∙◌, ap, subst, fun_ext}
use mathlib.Core.Logic.{◌⊎◌, inl, inr}
use mathlib.Core.Bool.{Bool, true, false, not}
use mathlib.Core.List.{List}
use native.Mathlib.Omega.{arith}
use Rattle.rules.specs.Rule.{Sheet, Within}
use Rattle.rules.specs.Stable.{Model}
use Rattle.rules.specs.Map.{Map, IsMap, Over, Whole, side, is, want, total, ◌⊑◌}
use Rattle.rules.specs.Forcing.{Closed, Least, Contradiction, computed}
use Rattle.rules.proofs.Fits.{Numbered}
use Rattle.rules.proofs.Tests.{eq_T, ne_T}
use Rattle.rules.proofs.Maps.{sides, want_apart, decided_within, ⊑_antisym}
use Rattle.rules.proofs.Bytes.{side_at, side_map}
use Rattle.rules.proofs.Total.{total_in, total_out, closed_stable}
use Rattle.rules.proofs.Models.{holding_agrees, model_closed, model_holding}

module _ (n : ℕ) (m : List ℕ) (whole : Whole n m) where
  decided : (a : ℕ) → Within n a → side n m a ≡ 0 → ⊥
  decided a v z =
      omega (arith, side_at n m a v, z, (whole (a - 1) (omega (arith, v.low, v.high))).low)

  is_map : IsMap n (side n m)
  is_map = side_map n m (λ i h. (whole i h).high)

  -- a map above a map that decides every atom is the same map
  above_same : (X : Map) → IsMap n X → side n m ⊑ X → side n m ≡ X
  above_same X x f = fun_ext (λ a. ⊑_antisym is_map x f (record { keeps = back }) a)
    where
      back : (t : Bool) (a : ℕ) → X a ≡ want t → side n m a ≡ want t
      back t a h = step (sides (side n m a) (is_map.sides a) t)
        where
          step :
              (side n m a ≡ 0) ⊎ ((side n m a ≡ want t) ⊎ (side n m a ≡ want (not t)))
              → side n m a ≡ want t
          step (inl z) = absurd (decided a (decided_within x t a h) z)
          step (inr (inl z)) = z
          step (inr (inr z)) = absurd (want_apart t (sym h ∙ f.keeps (not t) a z))

  -- the map of a set that has the in-atoms
  below_total : side n m ⊑ total n (is 1 (side n m))
  below_total = record { keeps = keep }
    where
      keep : (t : Bool) (a : ℕ) → side n m a ≡ want t → total n (is 1 (side n m)) a ≡ want t
      keep true a h = total_in (is 1 (side n m)) (decided_within is_map true a h) (eq_T h)
      keep false a h =
          total_out
          (is 1 (side n m))
          (decided_within is_map false a h)
          (ne_T (λ z. want_apart true (sym z ∙ h)))

module _ {sh : Sheet} (ok : Numbered sh) (m : List ℕ) (whole : Whole sh.atoms m) where
  pub closed_model :
      {M : Map} → Least (Closed sh.rules sh.atoms) (Over (side sh.atoms m) (computed sh)) M
      → Model sh (is 1 (side sh.atoms m))
  closed_model {M} l =
      subst
      (λ (x : Map). Model sh (is 1 x))
      (sym e)
      (record {
        stable = closed_stable ok.rules l.closed (λ a v z. decided sh.atoms m whole a v (ap (λ (x : Map). x a) e ∙ z));
        agrees = holding_agrees sh M l.holding.holds;
      })
    where
      e : side sh.atoms m ≡ M
      e = above_same sh.atoms m whole M l.closed.is_map l.holding.above

  pub clash_no_model :
      Contradiction (Closed sh.rules sh.atoms) (Over (side sh.atoms m) (computed sh))
      → Model sh (is 1 (side sh.atoms m)) → ⊥
  clash_no_model c md =
      c
      (total sh.atoms (is 1 (side sh.atoms m)))
      (model_closed ok md)
      (record { above = below_total sh.atoms m whole; holds = model_holding ok md })
