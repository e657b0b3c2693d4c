-- The rules of a sheet name only its atoms: their heads and the atoms of their literals rise within 1 to n.
use Prim.Native.Nat.{ℕ, ◌≤◌}
use mathlib.Core.Path.{ap}
use mathlib.Core.List.{List, Memᴰ}
use Rattle.rules.specs.Limits.{atoms_most}
use Rattle.rules.specs.Rule.{Rule, Weighted, Sheet, atoms_of}
use Rattle.rules.proofs.Fits.{Fits, Numbered}
use Rattle.rules.proofs.Tests.{has_mem}
use Rattle.sheet.specs.Shown.Encode.{ProperRules, WellFormed}
use Rattle.sheet.proofs.Sound.{rising_within, each_sound}

mem_atom : {l : Weighted} {ls : List Weighted} → Memᴰ l ls → Memᴰ l.atom (atoms_of ls)
mem_atom (Memᴰ.head e) = Memᴰ.head (ap (λ (l : Weighted). l.atom) e)
mem_atom (Memᴰ.tail m) = Memᴰ.tail (mem_atom m)

propers_fit : (n : ℕ) (rs : List Rule) → n ≤ atoms_most → ProperRules n rs → Fits n rs
propers_fit n rs few ps =
    record {
      head = λ r m a t. rising_within (each_sound n few ps m).heads (has_mem a r.heads t);
      literal = λ r m s l i. rising_within ((each_sound n few ps m).atoms s) (mem_atom i);
    }

pub formed_numbered : (sh : Sheet) → WellFormed sh → Numbered sh
formed_numbered sh w =
    record {
      rules = propers_fit sh.atoms sh.rules w.atoms w.rules;
      compute_in = λ a t. rising_within w.compute_in (has_mem a sh.compute_in t);
      compute_out = λ a t. rising_within w.compute_out (has_mem a sh.compute_out t);
    }
