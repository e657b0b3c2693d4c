-- What a line says: its digits mean its numbers, it has one line feed, and a model's line names the atoms that are in.
use Prim.Native.Nat.{ℕ, zero, suc, ◌+◌, ◌*◌, ◌-◌, ◌/◌, ◌%◌, ◌≤◌, ◌<◌}
use mathlib.Core.Path.{◌≡◌, refl, sym, ap, subst, ◌∙◌}
use mathlib.Core.Logic.{⊎_elim}
use mathlib.Core.Bool.{Bool, true, false, not, ◌&&◌, cond}
use mathlib.Core.List.Memᴰ
use mathlib.Core.List.{List, [], ◌∷◌, ◌++◌, Memᴰ, append-nil}
use native.Mathlib.Omega.{arith}
use native.Mathlib.Nat.{eq-or-lt_of_le}
use lib.ListN.{get_or}
use lib.Dec.{T, eqb, ltb, leb, lt→ltb, leb→le, le→leb, eqb→eq, not_T}
use Rattle.rules.specs.Rule.{Within}
use Rattle.rules.specs.Map.{side, is}
use Rattle.rules.proofs.Tests.{and_T, T_and_left, T_and_right, T_true, true_T, eq_T, T_eq}
use Rattle.rules.proofs.Inside.{inside_true, within?, inside_false}
use Rattle.text.specs.Line.{digit, digits, spaced, spaced_all, is_in, in_atom, in_atoms, model_word, none_word, refused_word, model_line, none_line, refused_line}
use Rattle.text.specs.Shown.Legible.{value_after, figures, Decimal, plain, OneLine, rising}
use Rattle.text.proofs.Lines.{less, digits_small, digits_large}

value_join : (high : ℕ) (ds : List ℕ) (d : ℕ) → value_after high (ds ++ (d ∷ [])) ≡ value_after high ds * 10 + (d - 48)
unfolding value_after
value_join high [] d = refl
value_join high (b ∷ bs) d = value_join (high * 10 + (b - 48)) bs d

figures_join : (xs ys : List ℕ) → T (figures xs) → T (figures ys) → T (figures (xs ++ ys))
unfolding figures
figures_join [] ys s t = t
figures_join (x ∷ xs) ys s t =
    let one = leb 48 x && leb x 57 in
    and_T one (figures (xs ++ ys)) (T_and_left one (figures xs) s) (figures_join xs ys (T_and_right one (figures xs) s) t)

one_figure : (d : ℕ) → d < 10 → T (figures (digit d ∷ []))
unfolding figures
one_figure d h =
    and_T (leb 48 (digit d) && leb (digit d) 57) true
    (and_T (leb 48 (digit d)) (leb (digit d) 57) (le→leb 48 (digit d) (omega arith)) (le→leb (digit d) 57 (omega arith)))
    tt

-- a number of one digit, and a number of more
decimal_small : (x : ℕ) → x < 10 → Decimal x (digit x ∷ [])
unfolding value_after
decimal_small x h = record { digital = one_figure x h; means = omega arith; leads = λ l. omega arith }

decimal_large : (x : ℕ) (ds : List ℕ) → 10 ≤ x → Decimal (x / 10) ds → Decimal x (ds ++ (digit (x % 10) ∷ []))
decimal_large x ds h d =
    record {
      digital = figures_join ds (digit (x % 10) ∷ []) d.digital (one_figure (x % 10) (omega arith));
      means = value_join 0 ds (digit (x % 10)) ∙ omega (arith, d.means);
      leads = λ l. first ds (d.leads (omega arith));
    }
  where
    first : (ds : List ℕ) → 49 ≤ get_or ds 0 0 → 49 ≤ get_or (ds ++ (digit (x % 10) ∷ [])) 0 0
    first [] f = absurd (omega arith)
    first (b ∷ bs) f = f

decimal_below : (k x : ℕ) → x < k → Decimal x (digits x)
decimal_below zero x h = absurd (omega arith)
decimal_below (suc k) x h =
    ⊎_elim
    (λ s. subst (Decimal x) (sym (digits_small x s)) (decimal_small x s))
    (λ s. subst (Decimal x) (sym (digits_large x s)) (decimal_large x (digits (x / 10)) s (decimal_below k (x / 10) (omega arith))))
    (less x 10)

pub decimal : (x : ℕ) → Decimal x (digits x)
decimal x = decimal_below (suc x) x (omega arith)

pub zero_is_0 : digits 0 ≡ 48 ∷ []
zero_is_0 = digits_small 0 (omega arith)

plain_join : (xs ys : List ℕ) → T (plain xs) → T (plain ys) → T (plain (xs ++ ys))
unfolding plain
plain_join [] ys s t = t
plain_join (x ∷ xs) ys s t =
    let one = not (eqb x 10) in
    and_T one (plain (xs ++ ys)) (T_and_left one (plain xs) s) (plain_join xs ys (T_and_right one (plain xs) s) t)

figures_plain : (bs : List ℕ) → T (figures bs) → T (plain bs)
unfolding figures plain
figures_plain [] t = tt
figures_plain (b ∷ bs) t =
    let one = leb 48 b && leb b 57 in
    let low : 48 ≤ b = leb→le 48 b (T_and_left (leb 48 b) (leb b 57) (T_and_left one (figures bs) t)) in
    and_T (not (eqb b 10)) (plain bs)
    (not_T (eqb b 10) (λ s. let e : b ≡ 10 = eqb→eq b 10 s in omega arith))
    (figures_plain bs (T_and_right one (figures bs) t))

spaced_plain : (x : ℕ) → T (plain (spaced x))
unfolding spaced plain
spaced_plain x = figures_plain (digits x) (decimal x).digital

all_plain : (xs : List ℕ) → T (plain (spaced_all xs))
unfolding spaced_all plain
all_plain [] = tt
all_plain (x ∷ xs) = plain_join (spaced x) (spaced_all xs) (spaced_plain x) (all_plain xs)

pub model_line_law : (n : ℕ) (m : List ℕ) → OneLine (model_line n m)
unfolding model_line plain
model_line_law n m =
    record {
      body = model_word ++ spaced_all (in_atoms n m);
      ends = refl;
      single = plain_join model_word (spaced_all (in_atoms n m)) tt (all_plain (in_atoms n m));
    }

pub none_line_law : OneLine none_line
unfolding none_line plain
none_line_law = record { body = none_word; ends = refl; single = tt }

pub refused_line_law : (number place : ℕ) → OneLine (refused_line number place)
unfolding refused_line plain
refused_line_law number place =
    record {
      body = refused_word ++ spaced number ++ spaced place;
      ends = refl;
      single =
          plain_join (refused_word ++ spaced number) (spaced place)
          (plain_join refused_word (spaced number) tt (spaced_plain number))
          (spaced_plain place);
    }

-- an atom whose byte is 1
record In (n : ℕ) (m : List ℕ) (a : ℕ) : Type 0 where
  within : Within n a
  byte : get_or m (a - 1) 0 ≡ 1

one_named :
    (m : List ℕ) (i a : ℕ) (b : Bool) → is_in m i ≡ b → Memᴰ a (cond b (suc i ∷ []) []) → In (suc i) m a
one_named m i a true e mem =
    let at : a ≡ suc i = Memᴰ.eq_of_singleton mem in
    let here : a - 1 ≡ i = omega arith in
    record {
      within = record { low = omega arith; high = omega arith };
      byte = ap (λ (k : ℕ). get_or m k 0) here ∙ T_eq (true_T e);
    }
one_named m i a false e mem = absurd (Memᴰ.not-nil mem)

named : (n : ℕ) (m : List ℕ) (a : ℕ) → Memᴰ a (in_atoms n m) → In n m a
unfolding in_atoms
named zero m a mem = absurd (Memᴰ.not-nil mem)
named (suc i) m a mem =
    ⊎_elim
    (λ l. let r : In i m a = named i m a l in record {
      within = record { low = r.within.low; high = omega (arith, r.within.high) };
      byte = r.byte;
    })
    (λ l. one_named m i a (is_in m i) refl l)
    (Memᴰ.append_cases (in_atoms i m) mem)

in_named : (n : ℕ) (m : List ℕ) (a : ℕ) → In n m a → Memᴰ a (in_atoms n m)
unfolding in_atoms
in_named zero m a r = absurd (omega (arith, r.within.low, r.within.high))
in_named (suc i) m a r =
    ⊎_elim
    (λ e. Memᴰ.append_right (in_atoms i m) (last e))
    (λ l. Memᴰ.append_left (in_atom m i) (in_named i m a (record {
      within = record { low = r.within.low; high = omega arith };
      byte = r.byte;
    })))
    (eq-or-lt_of_le r.within.high)
  where
    last : a ≡ suc i → Memᴰ a (in_atom m i)
    last e =
        let here : a - 1 ≡ i = omega arith in
        let one : is_in m i ≡ true = T_true (is_in m i) (eq_T (ap (λ (k : ℕ). get_or m k 0) (sym here) ∙ r.byte)) in
        rw one (Memᴰ.head e)

-- a model's line names an atom exactly where the map has it in
pub names_in : (n : ℕ) (m : List ℕ) (a : ℕ) → Memᴰ a (in_atoms n m) → T (is 1 (side n m) a)
unfolding side
names_in n m a mem = let r : In n m a = named n m a mem in eq_T (ap (λ (b : Bool). cond b (get_or m (a - 1) 0) 0) (inside_true r.within) ∙ r.byte)

pub in_names : (n : ℕ) (m : List ℕ) (a : ℕ) → T (is 1 (side n m) a) → Memᴰ a (in_atoms n m)
unfolding side
in_names n m a t =
    ⊎_elim
    (λ w. in_named n m a (record {
      within = w;
      byte = sym (ap (λ (b : Bool). cond b (get_or m (a - 1) 0) 0) (inside_true w)) ∙ T_eq t;
    }))
    (λ w. absurd (never w))
    (within? n a)
  where
    never : (Within n a → ⊥) → ⊥
    never w =
        let e : ◌≡◌ {A = ℕ} 0 1 = sym (ap (λ (b : Bool). cond b (get_or m (a - 1) 0) 0) (inside_false w)) ∙ T_eq t in
        omega arith

rising_join :
    (low : ℕ) (xs : List ℕ) (y : ℕ)
    → T (rising low xs)
    → low < y
    → ((x : ℕ) → Memᴰ x xs → x < y)
    → T (rising low (xs ++ (y ∷ [])))
unfolding rising
rising_join low [] y t h below = and_T (ltb low y) true (lt→ltb low y h) tt
rising_join low (x ∷ xs) y t h below =
    and_T (ltb low x) (rising x (xs ++ (y ∷ [])))
    (T_and_left (ltb low x) (rising x xs) t)
    (rising_join x xs y (T_and_right (ltb low x) (rising x xs) t) (below x (Memᴰ.head refl)) (λ z mem. below z (Memᴰ.tail mem)))

-- and in order
pub names_in_order : (n : ℕ) (m : List ℕ) → T (rising 0 (in_atoms n m))
unfolding in_atoms rising
names_in_order zero m = tt
names_in_order (suc i) m = step (is_in m i) (names_in_order i m)
  where
    step : (b : Bool) → T (rising 0 (in_atoms i m)) → T (rising 0 (in_atoms i m ++ cond b (suc i ∷ []) []))
    step true t =
        rising_join 0 (in_atoms i m) (suc i) t (omega arith) (λ x mem. omega (arith, (named i m x mem).within.high))
    step false t = rw append-nil t
