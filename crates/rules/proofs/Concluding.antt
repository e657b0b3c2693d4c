-- What the four forcing rules conclude from a map, as one list of literals that is computed. Each is so in every closed map above;
-- and a map that holds them all is closed.
use Prim.Native.Nat.{ℕ, ◌+◌, ◌≤◌, ◌<◌}
use mathlib.Core.Path.{◌≡◌, refl, sym, ◌∙◌, subst}
use mathlib.Core.Logic.{⊎_elim}
use mathlib.Core.Bool.{Bool, true, false, not, ◌&&◌, ◌||◌}
use mathlib.Core.List.Memᴰ
use mathlib.Core.List.{List, [], ◌∷◌, ◌++◌, map, Memᴰ}
use lib.Dec.{T, eqb, leb, ltb, leb→le, le→leb, ltb→lt, lt→ltb, T_not}
use Rattle.rules.specs.Sum.{has}
use Rattle.rules.specs.Rule.{Rule, Weighted, Within, body, chooses}
use Rattle.rules.specs.Map.{Map, Literal, Holding, IsMap, want, sure, reach, ◌⊑◌, signed}
use Rattle.rules.specs.Forcing.{Closed, supports, Only}
use Rattle.rules.proofs.Fits.{Fits}
use Rattle.rules.proofs.Tests.{and_T, T_and_left, T_and_right, eq_T, T_eq, has_mem, mem_has, decided, T_or, or_left, or_right}
use Rattle.rules.proofs.Lists.{some, some_T, T_some, every, every_T, T_every, each, each_mem, mem_each, guard, guard_mem, mem_guard, down_from, down_from_within, within_up_to}
use Rattle.rules.proofs.Members.{map_mem, mem_map}
use Rattle.rules.proofs.Same.{same_rule, rule_T, T_rule}
use Rattle.rules.proofs.Maps.{want_decided}
use Rattle.rules.proofs.Forced.{forced_first, forced_second, forced_third, forced_fourth}
use Rattle.rules.proofs.Founding.{U, U_founded, founded_U}

abbrev pub lit : ℕ → Bool → Literal
lit a s = record { atom = a; sign = s }

signs : (s : Bool) → Memᴰ s (true ∷ false ∷ [])
signs true = Memᴰ.head refl
signs false = Memᴰ.tail (Memᴰ.head refl)

module _ (M : Map) (r : Rule) where
  -- the undecided literals of a body whose weight passes a test, each with the sign that f makes of its own
  abbrev decided_by : (Weighted → Bool) → (Bool → Bool) → List Literal
  decided_by p f =
      each
      (λ (s : Bool). each (λ (l : Weighted). guard (eqb (M l.atom) 0 && p l) (lit l.atom (f s) ∷ [])) (body r s))
      (true ∷ false ∷ [])

  pub record Undecided (p : Weighted → Bool) (f : Bool → Bool) (c : Literal) : Type 0 where
    pub sign : Bool
    pub of : Weighted
    pub among : Memᴰ of (body r sign)
    pub open' : M of.atom ≡ 0
    pub passes : T (p of)
    pub is : c ≡ lit of.atom (f sign)

  decided_mem : (p : Weighted → Bool) (f : Bool → Bool) {c : Literal} → Memᴰ c (decided_by p f) → Undecided p f c
  decided_mem p f {c} m =
      let a = each_mem (λ (s : Bool). each (λ (l : Weighted). guard (eqb (M l.atom) 0 && p l) (lit l.atom (f s) ∷ [])) (body r s)) (true ∷ false ∷ []) m in
      let b = each_mem (λ (l : Weighted). guard (eqb (M l.atom) 0 && p l) (lit l.atom (f a.0) ∷ [])) (body r a.0) a.2 in
      let g = guard_mem (eqb (M b.0.atom) 0 && p b.0) (lit b.0.atom (f a.0) ∷ []) b.2 in
      record {
        sign = a.0;
        of = b.0;
        among = b.1;
        open' = T_eq (T_and_left (eqb (M b.0.atom) 0) (p b.0) g.0);
        passes = T_and_right (eqb (M b.0.atom) 0) (p b.0) g.0;
        is = Memᴰ.eq_of_singleton g.1;
      }

  mem_decided :
      (p : Weighted → Bool) (f : Bool → Bool) (s : Bool) (l : Weighted) → Memᴰ l (body r s) → M l.atom ≡ 0 → T (p l)
      → Memᴰ (lit l.atom (f s)) (decided_by p f)
  mem_decided p f s l m z t =
      mem_each
      (λ (u : Bool). each (λ (k : Weighted). guard (eqb (M k.atom) 0 && p k) (lit k.atom (f u) ∷ [])) (body r u))
      (signs s)
      (mem_each
      (λ (k : Weighted). guard (eqb (M k.atom) 0 && p k) (lit k.atom (f s) ∷ []))
      m
      (mem_guard (eqb (M l.atom) 0 && p l) (and_T (eqb (M l.atom) 0) (p l) (eq_T z) t) (Memᴰ.head refl)))

module _ (P : List Rule) (n : ℕ) (M : Map) where
  abbrev must : Rule → Bool
  must r = not (chooses r.kind)

  abbrev fires : Rule → Bool
  fires r = must r && leb r.need (sure r M)

  abbrev first : Rule → List Literal
  first r = guard (fires r) (map (signed true) r.heads)

  -- does no other rule support the atom?
  abbrev no_other : Rule → ℕ → Bool
  no_other r a = every (λ q. not (supports a M q) || same_rule q r) P

  T_no_other : (r : Rule) (a : ℕ) → T (no_other r a) → Only P a M r
  T_no_other r a t q among u =
      ⊎_elim (λ (no : T (not (supports a M q))). absurd (T_not (supports a M q) no u)) (λ (same : T (same_rule q r)). rule_T q r same)
      (T_or (not (supports a M q)) (same_rule q r) (every_T (λ q. not (supports a M q) || same_rule q r) P t q among))

  no_other_T : (r : Rule) (a : ℕ) → Only P a M r → T (no_other r a)
  no_other_T r a o =
      T_every (λ q. not (supports a M q) || same_rule q r) P
      (λ q among.
      ⊎_elim (λ u. or_right (not (supports a M q)) (same_rule q r) (T_rule q r (o q among u)))
      (λ no. or_left (not (supports a M q)) (same_rule q r) no)
      (decided (supports a M q)))

  -- the atom is in, and the rule is its only supporter
  abbrev only : Rule → ℕ → Bool
  only r a = eqb (M a) 1 && (supports a M r && no_other r a)

  abbrev needed : Rule → Weighted → Bool
  needed r l = ltb (reach r M) (r.need + l.weight)

  abbrev second : Rule → List Literal
  second r = each (λ (a : ℕ). guard (only r a) (decided_by M r (needed r) (λ s. s))) r.heads

  abbrev barred : Rule → Bool
  barred r = must r && some (λ (a : ℕ). eqb (M a) 2) r.heads

  abbrev enough : Rule → Weighted → Bool
  enough r l = leb r.need (sure r M + l.weight)

  abbrev third : Rule → List Literal
  third r = guard (barred r) (decided_by M r (enough r) not)

  abbrev fourth : ℕ → List Literal
  fourth a = guard (not (U P M n a)) (signed false a ∷ [])

  abbrev pub conclusions : List Literal
  conclusions = each first P ++ (each second P ++ (each third P ++ each fourth (down_from n)))

  in_first : {c : Literal} (r : Rule) → Memᴰ r P → Memᴰ c (first r) → Memᴰ c conclusions
  in_first r m i = Memᴰ.append_left (each second P ++ (each third P ++ each fourth (down_from n))) (mem_each first m i)

  in_second : {c : Literal} (r : Rule) → Memᴰ r P → Memᴰ c (second r) → Memᴰ c conclusions
  in_second r m i =
      Memᴰ.append_right (each first P) (Memᴰ.append_left (each third P ++ each fourth (down_from n)) (mem_each second m i))

  in_third : {c : Literal} (r : Rule) → Memᴰ r P → Memᴰ c (third r) → Memᴰ c conclusions
  in_third r m i =
      Memᴰ.append_right
      (each first P)
      (Memᴰ.append_right (each second P) (Memᴰ.append_left (each fourth (down_from n)) (mem_each third m i)))

  in_fourth : {c : Literal} (a : ℕ) → Memᴰ a (down_from n) → Memᴰ c (fourth a) → Memᴰ c conclusions
  in_fourth a m i =
      Memᴰ.append_right
      (each first P)
      (Memᴰ.append_right (each second P) (Memᴰ.append_right (each third P) (mem_each fourth m i)))

  -- what holds of each rule's conclusions holds of all in the list
  module _
      (K : Literal → Type 0)
      (k₁ : (r : Rule) → Memᴰ r P → T (must r) → r.need ≤ sure r M → (a : ℕ) → T (has a r.heads) → K (signed true a))
      (k₂ :
      (a : ℕ) → M a ≡ 1 → (r : Rule) → Memᴰ r P → T (supports a M r) → Only P a M r → (s : Bool) (l : Weighted)
      → Memᴰ l (body r s) → M l.atom ≡ 0 → reach r M < r.need + l.weight → K (lit l.atom s))
      (k₃ :
      (r : Rule) → Memᴰ r P → T (must r) → (a : ℕ) → T (has a r.heads) → M a ≡ 2 → (s : Bool) (l : Weighted)
      → Memᴰ l (body r s) → M l.atom ≡ 0 → r.need ≤ sure r M + l.weight → K (lit l.atom (not s)))
      (k₄ : (a : ℕ) → Within n a → T (not (U P M n a)) → K (signed false a))
    where
      at : {c d : Literal} → c ≡ d → K d → K c
      at e h = subst K (sym e) h

      by_first : {c : Literal} → Memᴰ c (each first P) → K c
      by_first i =
          let k = each_mem first P i in
          let g = guard_mem (fires k.0) (map (signed true) k.0.heads) k.2 in
          let h = map_mem (signed true) k.0.heads g.1 in
          at
          h.2
          (k₁
          k.0
          k.1
          (T_and_left (must k.0) (leb k.0.need (sure k.0 M)) g.0)
          (leb→le k.0.need (sure k.0 M) (T_and_right (must k.0) (leb k.0.need (sure k.0 M)) g.0))
          h.0
          (mem_has h.1))

      by_second : {c : Literal} → Memᴰ c (each second P) → K c
      by_second i =
          let k = each_mem second P i in
          let h = each_mem (λ (a : ℕ). guard (only k.0 a) (decided_by M k.0 (needed k.0) (λ s. s))) k.0.heads k.2 in
          let g = guard_mem (only k.0 h.0) (decided_by M k.0 (needed k.0) (λ s. s)) h.2 in
          let u = decided_mem M k.0 (needed k.0) (λ s. s) g.1 in
          let both = T_and_right (eqb (M h.0) 1) (supports h.0 M k.0 && no_other k.0 h.0) g.0 in
          at
          u.is
          (k₂
          h.0
          (T_eq (T_and_left (eqb (M h.0) 1) (supports h.0 M k.0 && no_other k.0 h.0) g.0))
          k.0
          k.1
          (T_and_left (supports h.0 M k.0) (no_other k.0 h.0) both)
          (T_no_other k.0 h.0 (T_and_right (supports h.0 M k.0) (no_other k.0 h.0) both))
          u.sign
          u.of
          u.among
          u.open'
          (ltb→lt (reach k.0 M) (k.0.need + u.of.weight) u.passes))

      by_third : {c : Literal} → Memᴰ c (each third P) → K c
      by_third i =
          let k = each_mem third P i in
          let g = guard_mem (barred k.0) (decided_by M k.0 (enough k.0) not) k.2 in
          let h = some_T (λ (a : ℕ). eqb (M a) 2) k.0.heads (T_and_right (must k.0) (some (λ (a : ℕ). eqb (M a) 2) k.0.heads) g.0) in
          let u = decided_mem M k.0 (enough k.0) not g.1 in
          at
          u.is
          (k₃
          k.0
          k.1
          (T_and_left (must k.0) (some (λ (a : ℕ). eqb (M a) 2) k.0.heads) g.0)
          h.0
          (mem_has h.1)
          (T_eq h.2)
          u.sign
          u.of
          u.among
          u.open'
          (leb→le k.0.need (sure k.0 M + u.of.weight) u.passes))

      by_fourth : {c : Literal} → Memᴰ c (each fourth (down_from n)) → K c
      by_fourth i =
          let k = each_mem fourth (down_from n) i in
          let g = guard_mem (not (U P M n k.0)) (signed false k.0 ∷ []) k.2 in
          at (Memᴰ.eq_of_singleton g.1) (k₄ k.0 (down_from_within n k.1) g.0)

      each_conclusion : (c : Literal) → Memᴰ c conclusions → K c
      each_conclusion c i =
          ⊎_elim
          (λ (j : Memᴰ c (each first P)). by_first j)
          (λ j.
          ⊎_elim
          (λ (k : Memᴰ c (each second P)). by_second k)
          (λ k. ⊎_elim by_third by_fourth (Memᴰ.append_cases (each third P) k))
          (Memᴰ.append_cases (each second P) j))
          (Memᴰ.append_cases (each first P) i)

  module _ (fits : Fits n P) where
    -- each conclusion is so in every closed map above
    pub concluded : {X : Map} → M ⊑ X → Closed P n X → Holding conclusions X
    concluded {X} f x =
        each_conclusion
        (λ c. X c.atom ≡ want c.sign)
        (forced_first f x)
        (forced_second f x)
        (forced_third f x)
        (λ a w t. forced_fourth f x a w (λ fo. T_not (U P M n a) t (founded_U P M fits a fo)))

    -- each is of one of the n atoms
    pub conclusion_within : (c : Literal) → Memᴰ c conclusions → Within n c.atom
    conclusion_within =
        each_conclusion
        (λ c. Within n c.atom)
        (λ r m _ _ a h. fits.head r m a h)
        (λ a _ r m _ _ s l i _ _. fits.literal r m s l i)
        (λ r m _ a _ _ s l i _ _. fits.literal r m s l i)
        (λ a w _. w)

    -- a map that holds every conclusion is closed
    pub all_held : IsMap n M → Holding conclusions M → Closed P n M
    all_held mp held =
        record {
          is_map = mp;
          first =
              λ r m c k a h.
              held
              (signed true a)
              (in_first
              r
              m
              (mem_guard
              (fires r)
              (and_T (must r) (leb r.need (sure r M)) c (le→leb r.need (sure r M) k))
              (mem_map (signed true) (has_mem a r.heads h))));
          second =
              λ a e r m t o s l i z k.
              want_decided
              s
              (sym
              (held
              (lit l.atom s)
              (in_second
              r
              m
              (mem_each
              (λ (b : ℕ). guard (only r b) (decided_by M r (needed r) (λ u. u)))
              (has_mem a r.heads (T_and_left (has a r.heads) (leb r.need (reach r M)) t))
              (mem_guard
              (only r a)
              (and_T
              (eqb (M a) 1)
              (supports a M r && no_other r a)
              (eq_T e)
              (and_T (supports a M r) (no_other r a) t (no_other_T r a o)))
              (mem_decided M r (needed r) (λ u. u) s l i z (lt→ltb (reach r M) (r.need + l.weight) k))))))
              ∙ z);
          third =
              λ r m c a h e s l i z k.
              want_decided
              (not s)
              (sym
              (held
              (lit l.atom (not s))
              (in_third
              r
              m
              (mem_guard
              (barred r)
              (and_T
              (must r)
              (some (λ (b : ℕ). eqb (M b) 2) r.heads)
              c
              (T_some (λ (b : ℕ). eqb (M b) 2) (has_mem a r.heads h) (eq_T e)))
              (mem_decided M r (enough r) not s l i z (le→leb r.need (sure r M + l.weight) k)))))
              ∙ z);
          fourth =
              λ a w o.
              ⊎_elim
              (λ (t : T (U P M n a)). U_founded P M fits a t)
              (λ (t : T (not (U P M n a))).
              absurd (o (held (signed false a) (in_fourth a (within_up_to n w) (mem_guard (not (U P M n a)) t (Memᴰ.head refl))))))
              (decided (U P M n a));
        }
