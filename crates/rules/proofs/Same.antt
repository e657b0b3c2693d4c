-- Two rules are the same exactly when their parts are, and that can be told: numbers, lists of them and kinds can be compared.
use Prim.Native.Nat.{ℕ}
use mathlib.Core.Path.{◌≡◌, refl, ap₂, subst}
use mathlib.Core.Bool.{Bool, true, false, ◌&&◌}
use mathlib.Core.List.{List, [], ◌∷◌}
use native.Mathlib.Omega.{arith}
use lib.Dec.{T, eqb, eqb_refl}
use Rattle.rules.specs.Rule.{Rule, Weighted, kind_number, body, atoms_of, weights_of}
use Rattle.rules.specs.declared.kind.Kind.{Kind}
use Rattle.rules.specs.declared.kind.Kind.TheVariants.{Basic as basic, Constraint as constraint, Choice as choice, Weight as weight}
use Rattle.rules.proofs.Tests.{T_eq, and_T, T_and_left, T_and_right}

-- are two lists the same, by a test of their elements?
module _ {A : Type 0} (p : A → A → Bool) where
  abbrev pub equal : List A → List A → Bool
  equal [] [] = true
  equal [] (y ∷ ys) = false
  equal (x ∷ xs) [] = false
  equal (x ∷ xs) (y ∷ ys) = p x y && equal xs ys

  pub equal_T : ((x y : A) → T (p x y) → x ≡ y) → (xs ys : List A) → T (equal xs ys) → xs ≡ ys
  equal_T f [] [] t = refl
  equal_T f [] (y ∷ ys) t = absurd t
  equal_T f (x ∷ xs) [] t = absurd t
  equal_T f (x ∷ xs) (y ∷ ys) t =
      ap₂ ◌∷◌ (f x y (T_and_left (p x y) (equal xs ys) t)) (equal_T f xs ys (T_and_right (p x y) (equal xs ys) t))

  T_equal : ((x : A) → T (p x x)) → (xs : List A) → T (equal xs xs)
  T_equal f [] = tt
  T_equal f (x ∷ xs) = and_T (p x x) (equal xs xs) (f x) (T_equal f xs)

pub kind_same : (k q : Kind) → kind_number k ≡ kind_number q → k ≡ q
kind_same basic basic e = refl
kind_same basic constraint e = absurd (omega (arith, e))
kind_same basic choice e = absurd (omega (arith, e))
kind_same basic weight e = absurd (omega (arith, e))
kind_same constraint basic e = absurd (omega (arith, e))
kind_same constraint constraint e = refl
kind_same constraint choice e = absurd (omega (arith, e))
kind_same constraint weight e = absurd (omega (arith, e))
kind_same choice basic e = absurd (omega (arith, e))
kind_same choice constraint e = absurd (omega (arith, e))
kind_same choice choice e = refl
kind_same choice weight e = absurd (omega (arith, e))
kind_same weight basic e = absurd (omega (arith, e))
kind_same weight constraint e = absurd (omega (arith, e))
kind_same weight choice e = absurd (omega (arith, e))
kind_same weight weight e = refl

weighted_same : (ls ks : List Weighted) → atoms_of ls ≡ atoms_of ks → weights_of ls ≡ weights_of ks → ls ≡ ks
weighted_same [] [] e f = refl
weighted_same [] (k ∷ ks) e f = let z : ◌≡◌ {A = ℕ} 0 1 = cc in absurd (omega arith)
weighted_same (l ∷ ls) [] e f = let z : ◌≡◌ {A = ℕ} 0 1 = cc in absurd (omega arith)
weighted_same (l ∷ ls) (k ∷ ks) e f =
    let atom : l.atom ≡ k.atom = cc in
    let weight : l.weight ≡ k.weight = cc in
    let atoms : atoms_of ls ≡ atoms_of ks = cc in
    let weights : weights_of ls ≡ weights_of ks = cc in
    ap₂ ◌∷◌ (λ j. record { atom = atom j; weight = weight j }) (weighted_same ls ks atoms weights)

pub rule_made :
    {r q : Rule} → r.kind ≡ q.kind → r.heads ≡ q.heads → r.need ≡ q.need → r.pos ≡ q.pos → r.neg ≡ q.neg → r ≡ q
rule_made kind heads need pos neg =
    λ j. record { kind = kind j; heads = heads j; need = need j; pos = pos j; neg = neg j }

-- "Two rules are the same when kind, heads, need, body and weights are all equal"
pub rule_same :
    {r q : Rule} → r.kind ≡ q.kind → r.heads ≡ q.heads → r.need ≡ q.need → ((s : Bool) → atoms_of (body r s) ≡ atoms_of (body q s))
    → ((s : Bool) → weights_of (body r s) ≡ weights_of (body q s)) → r ≡ q
rule_same {r} {q} kind heads need atoms weights =
    rule_made kind heads need (weighted_same r.pos q.pos (atoms true) (weights true))
    (weighted_same r.neg q.neg (atoms false) (weights false))

abbrev same_literal : Weighted → Weighted → Bool
same_literal l k = eqb l.atom k.atom && eqb l.weight k.weight

literal_T : (l k : Weighted) → T (same_literal l k) → l ≡ k
literal_T l k t =
    let atom : l.atom ≡ k.atom = T_eq (T_and_left (eqb l.atom k.atom) (eqb l.weight k.weight) t) in
    let weight : l.weight ≡ k.weight = T_eq (T_and_right (eqb l.atom k.atom) (eqb l.weight k.weight) t) in
    λ j. record { atom = atom j; weight = weight j }

T_literal : (l : Weighted) → T (same_literal l l)
T_literal l = and_T (eqb l.atom l.atom) (eqb l.weight l.weight) (eqb_refl l.atom) (eqb_refl l.weight)

abbrev same_body : Rule → Rule → Bool
same_body r q = equal same_literal r.pos q.pos && equal same_literal r.neg q.neg

abbrev same_head : Rule → Rule → Bool
same_head r q = eqb (kind_number r.kind) (kind_number q.kind) && (equal eqb r.heads q.heads && eqb r.need q.need)

-- are two rules the same?
abbrev pub same_rule : Rule → Rule → Bool
same_rule r q = same_head r q && same_body r q

pub rule_T : (r q : Rule) → T (same_rule r q) → r ≡ q
rule_T r q t =
    let h : T (same_head r q) = T_and_left (same_head r q) (same_body r q) t in
    let b : T (same_body r q) = T_and_right (same_head r q) (same_body r q) t in
    let rest : T (equal eqb r.heads q.heads && eqb r.need q.need) =
    T_and_right (eqb (kind_number r.kind) (kind_number q.kind)) _ h in
    rule_made (kind_same r.kind q.kind (T_eq (T_and_left (eqb (kind_number r.kind) (kind_number q.kind)) _ h)))
    (equal_T eqb (λ x y. T_eq) r.heads q.heads (T_and_left (equal eqb r.heads q.heads) _ rest))
    (T_eq (T_and_right (equal eqb r.heads q.heads) _ rest))
    (equal_T same_literal literal_T r.pos q.pos (T_and_left (equal same_literal r.pos q.pos) _ b))
    (equal_T same_literal literal_T r.neg q.neg (T_and_right (equal same_literal r.pos q.pos) _ b))

pub T_rule : (r q : Rule) → r ≡ q → T (same_rule r q)
T_rule r q e = subst (λ (x : Rule). T (same_rule r x)) e itself
  where
    itself : T (same_rule r r)
    itself =
        and_T (same_head r r) (same_body r r)
        (and_T (eqb (kind_number r.kind) (kind_number r.kind)) _ (eqb_refl (kind_number r.kind))
        (and_T (equal eqb r.heads r.heads) _ (T_equal eqb (λ x. eqb_refl x) r.heads) (eqb_refl r.need)))
        (and_T (equal same_literal r.pos r.pos) _ (T_equal same_literal T_literal r.pos) (T_equal same_literal T_literal r.neg))
