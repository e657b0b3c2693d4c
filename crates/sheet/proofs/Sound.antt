-- One thing of every rule of a sheet, whatever its kind: its lists rise within n, its weights are light, and its need is a number of a
-- sheet. Each kind has it by what it is made of.
use Prim.Native.Nat.{ℕ, ◌+◌, ◌≤◌}
use mathlib.Core.Path.{◌≡◌, refl, sym, subst}
use mathlib.Core.Bool.{Bool, true, false, not}
use mathlib.Core.Logic.{⊎_elim}
use mathlib.Core.List.Memᴰ
use mathlib.Core.List.{List, [], ◌∷◌, Memᴰ}
use native.Mathlib.Omega.{arith}
use lib.ListN.{length}
use lib.Dec.{T}
use Rattle.rules.specs.Limits.{atoms_most, weight_most, number_most}
use Rattle.rules.specs.Rule.{Rule, Within, body, chooses, choice_rule, ones, atoms_of, weights_of, weight_rule}
use Rattle.numbers.specs.Shown.Encode.{Linked, none, more, Rises, Rising}
use Rattle.numbers.proofs.lists.Whole.{rising_few}
use Rattle.sheet.specs.Shown.Encode.{LightOne, Light, ProperRule, is_basic, is_constraint, is_choice, is_weight, ProperRules, no_rules, and_rule}
use Rattle.sheet.proofs.rule.Apart.{ones_atoms}

-- what each link says of its number, of each number of the list
pub linked_each :
    {Q : ℕ → ℕ → Type 0} (P : ℕ → Type 0) → ((before x : ℕ) → Q before x → P x) → {before a : ℕ} {xs : List ℕ} → Linked Q before xs
    → Memᴰ a xs → P a
linked_each P says none m = absurd (Memᴰ.not-nil m)
linked_each P says {a = a} (more {before = before} {x = x} {xs = xs} q l) m =
    ⊎_elim
    (λ (e : a ≡ x). subst P (sym e) (says before x q))
    (λ (t : Memᴰ a xs). linked_each P says l t)
    (Memᴰ.cases_cons m)

pub rising_within : {n before a : ℕ} {xs : List ℕ} → Linked (Rises n) before xs → Memᴰ a xs → Within n a
rising_within {n} = linked_each (Within n) (λ before x q. q.within)

pub ones_rise : {n : ℕ} {xs : List ℕ} → Rising n xs → Rising n (atoms_of (ones xs))
ones_rise {n} {xs} h = subst (λ (ys : List ℕ). Rising n ys) (sym (ones_atoms xs)) h

pub ones_light : (before : ℕ) (xs : List ℕ) → Linked LightOne before (weights_of (ones xs))
unfolding weight_most
ones_light before [] = none
ones_light before (x ∷ xs) = let w : LightOne before 1 = record { most = omega arith } in more w (ones_light 1 xs)

only : {n h : ℕ} → Within n h → Rising n (h ∷ [])
only w = more (record { within = w; above = w.low }) none

-- its lists, its weights, its need, and its one head where it is no choice rule
pub record Sound (n : ℕ) (m : Rule) : Type 0 where
  pub heads : Rising n m.heads
  pub atoms : (s : Bool) → Rising n (atoms_of (body m s))
  pub light : (s : Bool) → Light (weights_of (body m s))
  pub need : m.need ≤ number_most
  pub single : T (not (chooses m.kind)) → length m.heads ≡ 1

module _ (n : ℕ) (few_atoms : n ≤ atoms_most) where
  pub two_lists : (xs ys : List ℕ) → Rising n xs → Rising n ys → length xs + length ys ≤ number_most
  unfolding atoms_most number_most
  two_lists xs ys h k = omega (arith, rising_few n h (omega arith), rising_few n k (omega arith))

  -- a body in which every weight is 1
  plain :
      (m : Rule) (xs ys : List ℕ) → Rising n m.heads → m.pos ≡ ones xs → m.neg ≡ ones ys → Rising n xs → Rising n ys
      → m.need ≤ number_most → (T (not (chooses m.kind)) → length m.heads ≡ 1) → Sound n m
  plain m xs ys h p q x y b one = record { heads = h; atoms = rises; light = lights; need = b; single = one }
    where
      rises : (s : Bool) → Rising n (atoms_of (body m s))
      rises true = rw p (ones_rise x)
      rises false = rw q (ones_rise y)

      lights : (s : Bool) → Light (weights_of (body m s))
      lights true = rw p (ones_light 0 xs)
      lights false = rw q (ones_light 0 ys)

  pub choice_sound : (hs xs ys : List ℕ) → Rising n hs → Rising n xs → Rising n ys → Sound n (choice_rule hs xs ys)
  choice_sound hs xs ys h x y = plain _ xs ys h refl refl x y (two_lists xs ys x y) (λ t. absurd t)

  pub proper_sound : (m : Rule) → ProperRule n m → Sound n m
  proper_sound m (is_basic h xs ys e w x y) =
      subst (Sound n) (sym e) (plain _ xs ys (only w) refl refl x y (two_lists xs ys x y) (λ t. refl))
  proper_sound m (is_constraint h k xs ys e w b x y) =
      subst (Sound n) (sym e) (plain _ xs ys (only w) refl refl x y b (λ t. refl))
  proper_sound m (is_choice hs xs ys e l h x y) = subst (Sound n) (sym e) (choice_sound hs xs ys h x y)
  proper_sound m (is_weight h k xs ys e w b x y u v) =
      subst (Sound n) (sym e) (record { heads = only w; atoms = rises; light = lights; need = b; single = λ t. refl })
    where
      rises : (s : Bool) → Rising n (atoms_of (body (weight_rule h k xs ys) s))
      rises true = x
      rises false = y

      lights : (s : Bool) → Light (weights_of (body (weight_rule h k xs ys) s))
      lights true = u
      lights false = v

  pub each_proper : {r : Rule} {rs : List Rule} → ProperRules n rs → Memᴰ r rs → ProperRule n r
  each_proper no_rules m = absurd (Memᴰ.not-nil m)
  each_proper {r} (and_rule {r = q} {rs = rs} p ps) m =
      ⊎_elim
      (λ (e : r ≡ q). subst (λ (t : Rule). ProperRule n t) (sym e) p)
      (λ (t : Memᴰ r rs). each_proper ps t)
      (Memᴰ.cases_cons m)

  pub each_sound : {r : Rule} {rs : List Rule} → ProperRules n rs → Memᴰ r rs → Sound n r
  each_sound {r} ps m = proper_sound r (each_proper ps m)

-- it has a head
pub proper_headed : (n : ℕ) (m : Rule) → ProperRule n m → 1 ≤ length m.heads
proper_headed n m (is_basic h xs ys e w x y) = subst (λ (r : Rule). 1 ≤ length r.heads) (sym e) (omega arith)
proper_headed n m (is_constraint h k xs ys e w b x y) = subst (λ (r : Rule). 1 ≤ length r.heads) (sym e) (omega arith)
proper_headed n m (is_choice hs xs ys e l h x y) = subst (λ (r : Rule). 1 ≤ length r.heads) (sym e) l
proper_headed n m (is_weight h k xs ys e w b x y u v) = subst (λ (r : Rule). 1 ≤ length r.heads) (sym e) (omega arith)
