-- `forcing::support::count_pair`: only an atom that is in has one more.
use Prim.Native.Nat.{ℕ, ◌+◌, ◌-◌}
use mathlib.Core.Path.{sym, ◌∙◌, ap, ap₂, subst}
use mathlib.Core.Bool.{◌&&◌}
use mathlib.Core.List.{List}
use lib.Dec.{eqb}
use lib.ListN.{set}
use Rattle.rules.specs.Map.{side, is}
use Rattle.table.specs.Inner.Words.{pair_atom}
use Rattle.forcing.specs.Inner.Support.{up_to_two, Adds}
use Rattle.forcing.proofs.Counting.{pair_in}
use Rattle.forcing.proofs.support.count_pair.Goals as goal

pub returns : goal.returns
returns c =
    let atom = c.atom-a.ensures in
    let a = c.args in
    let n = a.row.now.atoms in
    let at = pair_atom a.row.now.code.now a.j in
    subst (λ (l : List ℕ). Adds n (λ x. is 1 (side n a.m.now) x && eqb x at) a.counts.now l)
    (sym
    (ap₂ (λ (x y : ℕ). set a.counts.now (x - 1) y) atom
    (c.one_more.ensures ∙ ap (λ (y : ℕ). up_to_two (y + 1)) (c.side_of-old.ensures ∙ ap (side n a.counts.now) atom))))
    (pair_in n a.counts.now at c.requires.pair.within c.requires.space (side n a.m.now)
    (ap (side n a.m.now) (sym atom) ∙ sym c.side_of-is_apart.ensures ∙ c.if-is_apart.false))
