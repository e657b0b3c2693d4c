-- `forcing::heads::settle_all`: the rules visited before the present one are settled, or something was added, from where the pass
-- began.
use Rattle.std.proofs.Common.{ℕ, Bool, List, Ok}
use Rattle.rules.specs.Map.{Map}
use Rattle.rules.specs.Forcing.{Closed}
use Rattle.table.specs.Inner.Rows.{row_rule, table_rules}
use Rattle.forcing.specs.Inner.Pass.{placed}
use Rattle.forcing.specs.Inner.Heads.{Settled}
use Rattle.weigh.specs.Inner.Step.{Step, Till}
use Rattle.forcing.proofs.heads.settle_all.Given as goal

-- the k-th rule that is visited is settled
abbrev pub Visited : List ℕ → ℕ → Bool → ℕ → Map → Type 0
Visited code count down k = Settled (row_rule code (placed down count k))

abbrev pub invariant-loop-i : goal.invariant-loop-i
invariant-loop-i l =
    Step (Closed (table_rules l.t.code.now l.t.rules) l.t.atoms) l.t.atoms (Till (Visited l.t.code.now l.t.rules l.down) 0 l.i) l.initial.m l.m
    (Ok l.grew)
