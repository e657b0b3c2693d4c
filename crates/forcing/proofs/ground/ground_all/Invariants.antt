-- `forcing::ground::ground_all`: what the rules visited before the present one give from U is in U, or something was added.
use Rattle.std.proofs.Common.{ℕ, Bool, List, Ok}
use Rattle.rules.specs.Map.{Map, side}
use Rattle.table.specs.Inner.Rows.{row_rule, table_rules}
use Rattle.forcing.specs.Inner.Pass.{placed}
use Rattle.weigh.specs.Inner.Step.{Step, Till}
use Rattle.forcing.specs.Inner.Ground.{Grounding, Grounded}
use Rattle.forcing.proofs.ground.ground_all.Given as goal

-- what the k-th rule that is visited gives from U is in U
abbrev pub Visited : List ℕ → ℕ → Bool → Map → ℕ → Map → Type 0
Visited code count down M k = Grounded (row_rule code (placed down count k)) M

abbrev pub invariant-loop-i : goal.invariant-loop-i
invariant-loop-i l =
    let M = side l.t.atoms l.m in
    Step (Grounding (table_rules l.t.code.now l.t.rules) M) l.t.atoms (Till (Visited l.t.code.now l.t.rules l.down M) 0 l.i) l.initial.u l.u
    (Ok l.grew)
