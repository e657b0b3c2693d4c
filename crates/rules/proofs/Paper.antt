-- Stable is definition 6 of the paper. A rule gives an atom exactly where the paper's f_r has it: a count of all is the whole
-- length, and the weighted sum is the paper's. Every f(S) of a closure contains what the rules give from it, so it is above the
-- smallest such set; and the function that takes S to that smallest set is itself a closure, so the intersection of all is that set.
use Prim.Native.Nat.{ℕ, suc, ◌+◌, ◌≤◌}
use mathlib.Core.Path.{◌≡◌, refl, subst, ap₂}
use mathlib.Core.Logic.{⊎_elim}
use mathlib.Core.Bool.{Bool, true, false, ◌&&◌, cond}
use mathlib.Core.List.{List, [], ◌∷◌, map, Memᴰ}
use native.Mathlib.Omega.{arith}
use lib.ListN.{length}
use lib.Dec.{T, eqb, leb, leb→le, le→leb}
use Rattle.rules.specs.Sum.{counted, tally, has}
use Rattle.rules.specs.Rule.{Rule, Weighted, ones}
use Rattle.rules.specs.Stable.{Set, outside, gain, value, Gives, Contains, Stable}
use Rattle.rules.specs.Shown.Paper.{PaperRule, basic, constraint, choice, weight, all, those, sum, size, weight_in, fᵣ, InUnion, Closure, PaperStable, as_rule}
use Rattle.rules.proofs.Tests.{and_T, T_and_left, T_and_right, T_or, or_left}
use Rattle.rules.proofs.Lists.{those_split}
use Rattle.rules.proofs.Members.{map_mem, mem_map}
use Rattle.rules.proofs.Derived.{derived, derived_contains, derived_below, derived_given, gives_mono}

-- the weighted sum, as the paper has it
gain_size : (p : Set) (xs : List ℕ) → gain p (ones xs) ≡ size p xs
unfolding tally those
gain_size p [] = refl
gain_size p (x ∷ xs) = step (p x) (gain_size p xs)
  where
    step : (b : Bool) → gain p (ones xs) ≡ size p xs → counted b 1 + gain p (ones xs) ≡ length (cond b (x ∷ those p xs) (those p xs))
    step true e = omega (arith, e)
    step false e = omega (arith, e)

gain_weight : (p : Set) (ls : List Weighted) → gain p ls ≡ weight_in p ls
unfolding tally those sum
gain_weight p [] = refl
gain_weight p (l ∷ ls) = step (p l.atom) (gain_weight p ls)
  where
    step :
        (b : Bool) → gain p ls ≡ weight_in p ls
        → counted b l.weight + gain p ls ≡ sum (cond b (l ∷ those (λ k. p k.atom) ls) (those (λ k. p k.atom) ls))
    step true e = omega (arith, e)
    step false e = omega (arith, e)

-- all of a list is its length
all_size : (p : Set) (xs : List ℕ) → T (all p xs) → length xs ≤ size p xs
unfolding all those
all_size p [] t = omega arith
all_size p (x ∷ xs) t = step (p x) (T_and_left (p x) (all p xs) t) (all_size p xs (T_and_right (p x) (all p xs) t))
  where
    step : (b : Bool) → T b → length xs ≤ size p xs → suc (length xs) ≤ length (cond b (x ∷ those p xs) (those p xs))
    step true s h = omega arith
    step false s h = absurd s

size_short : (p : Set) (xs : List ℕ) → size p xs ≤ length xs
size_short p xs = omega (arith, those_split p xs)

size_all : (p : Set) (xs : List ℕ) → length xs ≤ size p xs → T (all p xs)
unfolding all those
size_all p [] h = tt
size_all p (x ∷ xs) h = step (p x) h (size_all p xs)
  where
    step : (b : Bool) → suc (length xs) ≤ length (cond b (x ∷ those p xs) (those p xs)) → (length xs ≤ size p xs → T (all p xs)) → T (b && all p xs)
    step true k rest = rest (omega (arith, k))
    step false k rest = absurd (omega (arith, k, size_short p xs))

module _ (C D : Set) (pos neg : List ℕ) where
  abbrev weights : ℕ
  weights = gain C (ones pos) + gain D (ones neg)

  all_weights : T (all C pos && all D neg) → length pos + length neg ≤ weights
  all_weights t =
      omega (
        arith,
        gain_size C pos,
        gain_size D neg,
        all_size C pos (T_and_left (all C pos) (all D neg) t),
        all_size
            D
            neg
            (T_and_right (all C pos) (all D neg) t),
      )

  weights_all : length pos + length neg ≤ weights → T (all C pos && all D neg)
  weights_all h =
      and_T
      (all C pos)
      (all D neg)
      (size_all C pos (omega (arith, h, gain_size C pos, gain_size D neg, size_short D neg)))
      (size_all D neg (omega (arith, h, gain_size C pos, gain_size D neg, size_short C pos)))

  size_weights : weights ≡ size C pos + size D neg
  size_weights = ap₂ ◌+◌ (gain_size C pos) (gain_size D neg)

head_T : (x h : ℕ) → T (has x (h ∷ [])) → T (eqb x h)
unfolding has
head_T x h t = ⊎_elim (λ (s : T (eqb x h)). s) (λ s. absurd s) (T_or (eqb x h) false t)

T_head : (x h : ℕ) → T (eqb x h) → T (has x (h ∷ []))
unfolding has
T_head x h t = or_left (eqb x h) false t

-- f_r has what the rule gives
pub paper_gives : (r : PaperRule) (S C : Set) (x : ℕ) → T (fᵣ r S C x) → Gives (as_rule r) S C x
unfolding fᵣ value
paper_gives (basic h pos neg) S C x t =
    let rest = T_and_right (eqb x h) (all C pos && all (outside S) neg) t in
    record {
      head = T_head x h (T_and_left (eqb x h) (all C pos && all (outside S) neg) t);
      holds = all_weights C (outside S) pos neg rest;
      chosen = λ c. absurd c;
    }
paper_gives (constraint h k pos neg) S C x t =
    let rest = T_and_right (eqb x h) (leb k (size C pos + size (outside S) neg)) t in
    record {
      head = T_head x h (T_and_left (eqb x h) (leb k (size C pos + size (outside S) neg)) t);
      holds = omega (arith, leb→le k (size C pos + size (outside S) neg) rest, size_weights C (outside S) pos neg);
      chosen = λ c. absurd c;
    }
paper_gives (choice hs pos neg) S C x t =
    let front = T_and_left (has x hs && S x) (all C pos && all (outside S) neg) t in
    record {
      head = T_and_left (has x hs) (S x) front;
      holds = all_weights C (outside S) pos neg (T_and_right (has x hs && S x) (all C pos && all (outside S) neg) t);
      chosen = λ _. T_and_right (has x hs) (S x) front;
    }
paper_gives (weight h pos neg w) S C x t =
    let rest = T_and_right (eqb x h) (leb w (weight_in C pos + weight_in (outside S) neg)) t in
    record {
      head = T_head x h (T_and_left (eqb x h) (leb w (weight_in C pos + weight_in (outside S) neg)) t);
      holds =
          omega
          (arith, leb→le w (weight_in C pos + weight_in (outside S) neg) rest, gain_weight C pos, gain_weight (outside S) neg);
      chosen = λ c. absurd c;
    }

pub gives_paper : (r : PaperRule) (S C : Set) (x : ℕ) → Gives (as_rule r) S C x → T (fᵣ r S C x)
unfolding fᵣ value
gives_paper (basic h pos neg) S C x gv =
    and_T
    (eqb x h)
    (all C pos && all (outside S) neg)
    (head_T x h gv.head)
    (weights_all C (outside S) pos neg gv.holds)
gives_paper (constraint h k pos neg) S C x gv =
    and_T
    (eqb x h)
    (leb k (size C pos + size (outside S) neg))
    (head_T x h gv.head)
    (le→leb k (size C pos + size (outside S) neg) (omega (arith, gv.holds, size_weights C (outside S) pos neg)))
gives_paper (choice hs pos neg) S C x gv =
    and_T
    (has x hs && S x)
    (all C pos && all (outside S) neg)
    (and_T (has x hs) (S x) gv.head (gv.chosen tt))
    (weights_all C (outside S) pos neg gv.holds)
gives_paper (weight h pos neg w) S C x gv =
    and_T
    (eqb x h)
    (leb w (weight_in C pos + weight_in (outside S) neg))
    (head_T x h gv.head)
    (le→leb
    w
    (weight_in C pos + weight_in (outside S) neg)
    (omega (arith, gv.holds, gain_weight C pos, gain_weight (outside S) neg)))

module _ (P : List PaperRule) (S : Set) where
  abbrev rules : List Rule
  rules = map as_rule P

  -- what the paper's union has, a rule gives, and back
  union_gives : (C : Set) (x : ℕ) → InUnion P S C x → (r : Rule) × Memᴰ r rules × Gives r S C x
  union_gives C x u = (as_rule u.rule, mem_map as_rule u.among, paper_gives u.rule S C x u.given)

  gives_union : (C : Set) (x : ℕ) (r : Rule) → Memᴰ r rules → Gives r S C x → InUnion P S C x
  gives_union C x r m gv =
      let t = map_mem as_rule P m in
      record {
        rule = t.0;
        among = t.1;
        given = gives_paper t.0 S C x (subst (λ (q : Rule). Gives q S C x) t.2 gv);
      }

  -- a closure's set contains what the rules give from it
  closure_contains : (f : Set → Set) → Closure P f → Contains rules S (f S)
  closure_contains f c r m x gv = (c S x).1 (gives_union (f S) x r m gv)

-- the smallest set is a closure
derived_closure : (P : List PaperRule) → Closure P (derived (map as_rule P))
derived_closure P S x = (
  λ t.
      let k = derived_given (map as_rule P) S x t in
      gives_union P S (derived (map as_rule P) S) x k.0 k.1 k.2,
  λ u.
      let k = union_gives P S (derived (map as_rule P) S) x u in
      derived_contains (map as_rule P) S k.0 k.1 x k.2,
)

pub stable_paper : (P : List PaperRule) (S : Set) → Stable (map as_rule P) S → PaperStable P S
stable_paper P S st x = (
  λ t f c. st.smallest (f S) (closure_contains P S f c) x t,
  λ h.
      derived_below (map as_rule P) S S st.contains x (h (derived (map as_rule P)) (derived_closure P)),
)

pub paper_stable : (P : List PaperRule) (S : Set) → PaperStable P S → Stable (map as_rule P) S
paper_stable P S ps =
    record {
      contains =
          λ r m a gv.
          (ps a).1
          (λ f c. closure_contains P S f c r m a (gives_mono r S S (f S) (λ b t. (ps b).0 t f c) a gv));
      smallest = λ C c a t. derived_below (map as_rule P) S C c a ((ps a).0 t (derived (map as_rule P)) (derived_closure P));
    }
