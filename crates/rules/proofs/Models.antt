-- Forcing loses no agreeing stable model: the model's total map is closed and holds the compute lists, so the least such map is
-- below it.
use Prim.Native.Nat.{ℕ}
use mathlib.Core.Path.{◌≡◌, sym, ◌∙◌, subst}
use mathlib.Core.Logic.{⊎_elim}
use mathlib.Core.Bool.{false, true}
use mathlib.Core.List.Memᴰ
use mathlib.Core.List.{List, map, Memᴰ}
use lib.Dec.{T, T_not}
use Rattle.rules.specs.Sum.{has}
use Rattle.rules.specs.Rule.{Sheet}
use Rattle.rules.specs.Stable.{Set, Agrees, Model, NoModel}
use Rattle.rules.specs.Map.{Map, Literal, Holding, want, is, total, ◌⊑◌, signed}
use Rattle.rules.specs.Forcing.{Closed, Least, Contradiction, Pinned, computed}
use Rattle.rules.proofs.Fits.{Numbered}
use Rattle.rules.proofs.Tests.{eq_T, ne_T, has_mem, mem_has}
use Rattle.rules.proofs.Members.{map_mem, mem_map}
use Rattle.rules.proofs.Maps.{want_apart}
use Rattle.rules.proofs.Least.{holding_append}
use Rattle.rules.proofs.Total.{total_in, total_out, stable_closed}

module _ {sh : Sheet} (ok : Numbered sh) where
  abbrev n : ℕ
  n = sh.atoms

  pub model_holding : {S : Set} → Model sh S → Holding (computed sh) (total n S)
  model_holding {S} md p m = ⊎_elim ins outs (Memᴰ.append_cases (map (signed true) sh.compute_in) m)
    where
      at : {q : Literal} → p ≡ q → total n S q.atom ≡ want q.sign → total n S p.atom ≡ want p.sign
      at e h = subst (λ (x : Literal). total n S x.atom ≡ want x.sign) (sym e) h

      ins : Memᴰ p (map (signed true) sh.compute_in) → total n S p.atom ≡ want p.sign
      ins k =
          let t = map_mem (signed true) sh.compute_in k in
          let i = mem_has t.1 in
          at t.2 (total_in S (ok.compute_in t.0 i) (md.agrees.holds_in t.0 i))

      outs : Memᴰ p (map (signed false) sh.compute_out) → total n S p.atom ≡ want p.sign
      outs k =
          let t = map_mem (signed false) sh.compute_out k in
          let i = mem_has t.1 in
          at t.2 (total_out S (ok.compute_out t.0 i) (md.agrees.holds_out t.0 i))

  pub model_closed : {S : Set} → Model sh S → Closed sh.rules n (total n S)
  model_closed md = stable_closed ok.rules md.stable

  pub model_pinned : {S : Set} (ps : List Literal) → Model sh S → Holding ps (total n S) → Pinned sh ps (total n S)
  model_pinned {S} ps md h = holding_append (total n S) (computed sh) ps (model_holding md) h

  -- every agreeing stable model that holds the pins agrees with the least map
  pub loses_none :
      (ps : List Literal) {M : Map} {S : Set} → Least (Closed sh.rules n) (Pinned sh ps) M → Model sh S → Holding ps (total n S)
      → M ⊑ total n S
  loses_none ps {M} {S} l md h = l.below (total n S) (model_closed md) (model_pinned ps md h)

  -- and there is none where the answer is contradiction
  pub none_lost :
      (ps : List Literal) {S : Set} → Contradiction (Closed sh.rules n) (Pinned sh ps) → Model sh S → Holding ps (total n S) → ⊥
  none_lost ps {S} c md h = c (total n S) (model_closed md) (model_pinned ps md h)

-- a map that holds the compute lists has an in-set that agrees
pub holding_agrees : (sh : Sheet) (M : Map) → Holding (computed sh) M → Agrees sh (is 1 M)
holding_agrees sh M h =
    record {
      holds_in =
          λ a t. eq_T (h (signed true a) (Memᴰ.append_left (map (signed false) sh.compute_out) (mem_map (signed true) (has_mem a sh.compute_in t))));
      holds_out =
          λ a t.
          ne_T
          (λ e.
          want_apart
          false
          (sym (h (signed false a) (Memᴰ.append_right (map (signed true) sh.compute_in) (mem_map (signed false) (has_mem a sh.compute_out t)))) ∙ e));
    }

-- "The two compute lists may share an atom; such a sheet is accepted and has no model."
module _ (sh : Sheet) (a : ℕ) (ins : T (has a sh.compute_in)) (outs : T (has a sh.compute_out)) where
  pub shared_none : NoModel sh
  shared_none S md = T_not (S a) (md.agrees.holds_out a outs) (md.agrees.holds_in a ins)

  -- nor a map that holds its lists
  pub shared_clash : (Good : Map → Type 0) → Contradiction Good (Holding (computed sh))
  shared_clash Good X x h =
      let agreed = holding_agrees sh X h in
      T_not (is 1 X a) (agreed.holds_out a outs) (agreed.holds_in a ins)
