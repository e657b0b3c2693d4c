-- Neither the order of the rules nor how often each stands changes anything: every definition asks of the list only which rules it has.
use Prim.Native.Nat.{ℕ}
use mathlib.Core.Bool.{true, false}
use mathlib.Core.Path.{◌≡◌, refl, sym, subst, ap₂}
use mathlib.Core.List.{List, ◌∷◌, Memᴰ, Permᴰ, map, ◌++◌}
use lib.Dec.{T}
use Rattle.rules.specs.Sum.{has}
use Rattle.rules.specs.Rule.{Rule, Sheet, SameSet, Shuffled}
use Rattle.rules.specs.Stable.{Set, Stable, Model, First}
use Rattle.rules.specs.Map.{Map, Literal, Holding, signed}
use Rattle.rules.specs.Forcing.{Closed, Founded, Grounds, computed, Pinned, Least, Contradiction}
use Rattle.rules.proofs.Least.{holding_append, least_same, contradiction_same, least_alike, contradiction_alike, holding_left, holding_set, holding_right}
use Rattle.rules.proofs.Members.{same_sym, permuted_same, repeated_same}

module _ {P P' : List Rule} (k : SameSet P P') where
  pub stable_alike : {S : Set} → Stable P S → Stable P' S
  stable_alike st =
      record {
        contains = λ r m a g. st.contains r (k.back r m) a g;
        smallest = λ C c. st.smallest C (λ r m a g. c r (k.onto r m) a g);
      }

  pub grounds_back : {M : Map} {C : Set} → Grounds P' M C → Grounds P M C
  grounds_back g = record { none_out = g.none_out; holds_heads = λ r m. g.holds_heads r (k.onto r m) }

  pub founded_alike : (M : Map) (a : ℕ) → Founded P M a → Founded P' M a
  founded_alike M a f C g = f C (grounds_back g)

  pub closed_alike : {n : ℕ} {M : Map} → Closed P n M → Closed P' n M
  closed_alike {n} {M} x =
      record {
        is_map = x.is_map;
        first = λ r m. x.first r (k.back r m);
        second = λ a e r m t only. x.second a e r (k.back r m) t (λ q i. only q (k.onto q i));
        third = λ r m. x.third r (k.back r m);
        fourth = λ a w o. founded_alike M a (x.fourth a w o);
      }

pub shuffled_sym : {sh sh' : Sheet} → Shuffled sh sh' → Shuffled sh' sh
shuffled_sym k =
    record {
      atoms = sym k.atoms;
      rules = same_sym k.rules;
      compute_in = sym k.compute_in;
      compute_out = sym k.compute_out;
    }

-- a sheet with these rules in the place of its own
abbrev with_these : Sheet → List Rule → Sheet
with_these sh P = record { atoms = sh.atoms; rules = P; compute_in = sh.compute_in; compute_out = sh.compute_out }

with_same : (sh : Sheet) {P : List Rule} → SameSet P sh.rules → Shuffled (with_these sh P) sh
with_same sh same = record { atoms = refl; rules = same; compute_in = refl; compute_out = refl }

-- another order of the rules, and a rule that stands once more
pub in_order : (sh : Sheet) {P : List Rule} → Permᴰ P sh.rules → Shuffled (with_these sh P) sh
in_order sh d = with_same sh (permuted_same d)

pub once_more : (sh : Sheet) {r : Rule} → Memᴰ r sh.rules → Shuffled (with_these sh (r ∷ sh.rules)) sh
once_more sh m = with_same sh (repeated_same m)

pub model_shuffled : {sh sh' : Sheet} → Shuffled sh sh' → (S : Set) → Model sh S → Model sh' S
model_shuffled k S md =
    record {
      stable = stable_alike k.rules md.stable;
      agrees =
          record {
            holds_in = λ a t. md.agrees.holds_in a (subst (λ (xs : List ℕ). T (has a xs)) (sym k.compute_in) t);
            holds_out = λ a t. md.agrees.holds_out a (subst (λ (xs : List ℕ). T (has a xs)) (sym k.compute_out) t);
          };
    }

pub first_shuffled : {sh sh' : Sheet} → Shuffled sh sh' → (S : Set) → First sh S → First sh' S
first_shuffled k S f =
    record { is = model_shuffled k S f.is; first = λ S' md b. f.first S' (model_shuffled (shuffled_sym k) S' md) b }

-- two sheets of the same set of rules have the same closed maps: whatever is asked, the same least map, or no map of either
module _ {sh sh' : Sheet} (k : Shuffled sh sh') where
  pub computed_same : computed sh ≡ computed sh'
  computed_same = ap₂ (λ (xs ys : List ℕ). map (signed true) xs ++ map (signed false) ys) k.compute_in k.compute_out

  closed_onto : (X : Map) → Closed sh.rules sh.atoms X → Closed sh'.rules sh'.atoms X
  closed_onto X x = subst (λ (n : ℕ). Closed sh'.rules n X) k.atoms (closed_alike k.rules x)

  closed_back : (X : Map) → Closed sh'.rules sh'.atoms X → Closed sh.rules sh.atoms X
  closed_back X x =
      closed_alike (same_sym k.rules) (subst (λ (n : ℕ). Closed sh'.rules n X) (sym k.atoms) x)

  pub least_asked :
      (Q Q' : Map → Type 0) → ((X : Map) → Q X → Q' X) → ((X : Map) → Q' X → Q X) → {M : Map} → Least (Closed sh.rules sh.atoms) Q M
      → Least (Closed sh'.rules sh'.atoms) Q' M
  least_asked Q Q' onto back l = least_same Q Q' onto back (least_alike closed_onto closed_back l)

  pub contradiction_asked :
      (Q Q' : Map → Type 0) → ((X : Map) → Q' X → Q X) → Contradiction (Closed sh.rules sh.atoms) Q
      → Contradiction (Closed sh'.rules sh'.atoms) Q'
  contradiction_asked Q Q' back c = contradiction_same Q Q' back (contradiction_alike closed_onto closed_back c)

  -- the same pins
  module _ {ps ps' : List Literal} (same : SameSet ps ps') where
    pinned_onto : (X : Map) → Pinned sh ps X → Pinned sh' ps' X
    pinned_onto X h =
        holding_append
        X
        (computed sh')
        ps'
        (subst (λ (l : List Literal). Holding l X) computed_same (holding_left X (computed sh) ps h))
        (holding_set same X (holding_right X (computed sh) ps h))

    pinned_back : (X : Map) → Pinned sh' ps' X → Pinned sh ps X
    pinned_back X h =
        holding_append
        X
        (computed sh)
        ps
        (subst (λ (l : List Literal). Holding l X) (sym computed_same) (holding_left X (computed sh') ps' h))
        (holding_set (same_sym same) X (holding_right X (computed sh') ps' h))

    pub least_shuffled :
        {M : Map} → Least (Closed sh.rules sh.atoms) (Pinned sh ps) M → Least (Closed sh'.rules sh'.atoms) (Pinned sh' ps') M
    least_shuffled l = least_asked (Pinned sh ps) (Pinned sh' ps') pinned_onto pinned_back l

    pub contradiction_shuffled :
        Contradiction (Closed sh.rules sh.atoms) (Pinned sh ps) → Contradiction (Closed sh'.rules sh'.atoms) (Pinned sh' ps')
    contradiction_shuffled c = contradiction_asked (Pinned sh ps) (Pinned sh' ps') pinned_back c
