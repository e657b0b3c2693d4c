-- The literals of a body as atoms and weights apart: putting the two together and taking them apart again changes nothing.
use Prim.Native.Nat.{ℕ}
use mathlib.Core.Path.{◌≡◌, refl, sym, ap, ap₂, ◌∙◌}
use mathlib.Core.List.{List, [], ◌∷◌, ◌++◌}
use native.Mathlib.Omega.{arith}
use lib.ListN.{length, length-map}
use Rattle.rules.specs.Rule.{Weighted, ones, atoms_of, weights_of}
use Rattle.numbers.specs.Shown.Encode.{list_bytes}
use Rattle.sheet.specs.RuleMeaning.{paired}

pub ones_atoms : (xs : List ℕ) → atoms_of (ones xs) ≡ xs
ones_atoms [] = refl
ones_atoms (x ∷ xs) = ap (λ (ys : List ℕ). x ∷ ys) (ones_atoms xs)

pub ones_lists : (xs ys : List ℕ) → list_bytes xs ++ list_bytes ys ≡ list_bytes (atoms_of (ones xs)) ++ list_bytes (atoms_of (ones ys))
ones_lists xs ys = ap₂ (λ (us vs : List ℕ). list_bytes us ++ list_bytes vs) (sym (ones_atoms xs)) (sym (ones_atoms ys))

pub weigh_atoms : (xs ws : List ℕ) → length xs ≡ length ws → atoms_of (paired xs ws) ≡ xs
unfolding paired
weigh_atoms [] ws e = refl
weigh_atoms (x ∷ xs) [] e = let z : ◌≡◌ {A = ℕ} 0 1 = omega arith in absurd (omega arith)
weigh_atoms (x ∷ xs) (w ∷ ws) e = ap (λ (ys : List ℕ). x ∷ ys) (weigh_atoms xs ws (omega arith))

pub weigh_weights : (xs ws : List ℕ) → length xs ≡ length ws → weights_of (paired xs ws) ≡ ws
unfolding paired
weigh_weights [] [] e = refl
weigh_weights [] (w ∷ ws) e = absurd (omega arith)
weigh_weights (x ∷ xs) [] e = absurd (omega arith)
weigh_weights (x ∷ xs) (w ∷ ws) e = ap (λ (ys : List ℕ). w ∷ ys) (weigh_weights xs ws (omega arith))

pub weigh_length : (xs ws : List ℕ) → length xs ≡ length ws → length (paired xs ws) ≡ length xs
weigh_length xs ws e = sym (length-map (paired xs ws) (λ (l : Weighted). l.atom)) ∙ ap length (weigh_atoms xs ws e)

pub sizes : (ls : List Weighted) → length (atoms_of ls) ≡ length (weights_of ls)
sizes ls = length-map ls (λ (l : Weighted). l.atom) ∙ sym (length-map ls (λ (l : Weighted). l.weight))

pub weigh_back : (ls : List Weighted) → paired (atoms_of ls) (weights_of ls) ≡ ls
unfolding paired
weigh_back [] = refl
weigh_back (l ∷ ls) = ap (λ (t : List Weighted). l ∷ t) (weigh_back ls)

-- a body in which every weight is 1 is written as its atoms alone
pub plain_body : (xs ys q : List ℕ) → (list_bytes (atoms_of (ones xs)) ++ list_bytes (atoms_of (ones ys))) ++ q ≡ (list_bytes xs ++ list_bytes ys) ++ q
plain_body xs ys q = ap₂ (λ (us vs : List ℕ). (list_bytes us ++ list_bytes vs) ++ q) (ones_atoms xs) (ones_atoms ys)
