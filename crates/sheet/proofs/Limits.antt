-- The reach of a rule of a sheet is at most the weight of two whole lists, and its need is a number of a sheet; so its margin on any map
-- lies from the largest need below zero to that reach.
use Prim.Native.Nat.{ℕ, zero, suc, ◌+◌, ◌*◌, ◌-◌, ◌≤◌}
use mathlib.Core.Bool.{Bool, true, false, cond}
use mathlib.Core.List.{List, Memᴰ}
use native.Mathlib.Omega.{arith}
use native.Mathlib.Nat.{le_trans, mul-le-mul_right}
use lib.ListN.{length, length-map}
use lib.IntN.{ℤ, pos, negsuc, ◌-ℤ◌}
use lib.Dec.{ltb}
use Rattle.rules.specs.Limits.{atoms_most, weight_most, number_most}
use Rattle.rules.specs.Rule.{Rule, Weighted, Sheet, atoms_of, weights_of}
use Rattle.rules.specs.Stable.{Set, gain, value}
use Rattle.rules.specs.Map.{Map, isnt, reach, margin}
use Rattle.rules.proofs.Sum.{tally_most}
use Rattle.rules.proofs.Members.{mem_map}
use Rattle.numbers.specs.Shown.Encode.{Rising}
use Rattle.numbers.proofs.lists.Whole.{rising_few}
use Rattle.sheet.specs.Shown.Encode.{Light, WellFormed}
use Rattle.sheet.proofs.Sound.{linked_each, Sound, each_sound}

-- a list of literals weighs no more than the heaviest weight for each atom
list_weighs :
    (n : ℕ) (p : Set) (ls : List Weighted) → n ≤ atoms_most → Rising n (atoms_of ls) → Light (weights_of ls)
    → gain p ls ≤ atoms_most * weight_most
list_weighs n p ls few_atoms rises light =
    let few : length ls ≤ atoms_most =
    omega (arith, rising_few n rises (omega arith), length-map ls (λ (l : Weighted). l.atom)) in
    le_trans
    (tally_most weight_most (λ (l : Weighted). p l.atom) (λ l. l.weight) ls
    (λ l m. linked_each (λ w. w ≤ weight_most) (λ before w q. q.most) light (mem_map (λ (k : Weighted). k.weight) m)))
    (mul-le-mul_right weight_most few)

-- a signed number from -low to high
pub data Lies (low high : ℕ) : ℤ → Type 0 where
  above : (k : ℕ) → k ≤ high → Lies low high (pos k)
  below : (k : ℕ) → suc k ≤ low → Lies low high (negsuc k)

difference_lies : (low high x y : ℕ) → x ≤ high → y ≤ low → Lies low high (pos x -ℤ pos y)
difference_lies low high x zero hx hy = above (x + 0) (omega arith)
difference_lies low high x (suc y) hx hy = by (ltb x (suc y))
  where
    by : (b : Bool) → Lies low high (cond b (negsuc (suc y - suc x)) (pos (x - suc y)))
    by true = below (suc y - suc x) (omega arith)
    by false = above (x - suc y) (omega arith)

sound_margin :
    (n : ℕ) (r : Rule) (M : Map) → n ≤ atoms_most → Sound n r → Lies number_most (2 * (atoms_most * weight_most)) (margin r M)
unfolding margin value
sound_margin n r M few_atoms sound =
    difference_lies number_most (2 * (atoms_most * weight_most)) (reach r M) r.need
    (omega (
      arith,
      list_weighs n (isnt 2 M) r.pos few_atoms (sound.atoms true) (sound.light true),
      list_weighs n (isnt 1 M) r.neg few_atoms (sound.atoms false) (sound.light false),
    ))
    sound.need

module _ (sh : Sheet) (within : WellFormed sh) (r : Rule) (among : Memᴰ r sh.rules) where
  pub rule_sound : Sound sh.atoms r
  rule_sound = each_sound sh.atoms within.atoms within.rules among

  -- a margin of a rule of the sheet, on any map
  pub margin_range : (M : Map) → Lies number_most (2 * (atoms_most * weight_most)) (margin r M)
  margin_range M = sound_margin sh.atoms r M within.atoms rule_sound
