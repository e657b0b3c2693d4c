-- `forcing::heads::settle_all`: the rules visited before the present one are settled, or something was added, from where the pass
-- began.
use Prim.Native.Nat.{◌+◌}
use native.Mathlib.Omega.{arith}
use Rattle.rules.specs.Forcing.{Closed}
use Rattle.std.specs.Prelude.{Ok, Err}
use Rattle.table.specs.Inner.Rows.{row_rule, table_rules}
use Rattle.table.proofs.Rows.{rule_mem}
use Rattle.weigh.specs.Inner.Step.{Outcome, Step, Till}
use Rattle.weigh.proofs.Steps.{after, clashed, clash_any, quieter, steps_more, steps_end}
use Rattle.forcing.specs.Inner.Heads.{Settled, Settles}
use Rattle.forcing.proofs.Passes.{placed_less, visited}
use Rattle.forcing.proofs.heads.settle_all.Invariants.{Visited}
use Rattle.forcing.proofs.heads.settle_all.Goals as goal
use Rattle.forcing.proofs.heads.settle_all.Goals.{After-branch-grew}

pub row-row-requires : goal.row-row-requires
row-row-requires c = let t = c.args.t.now in omega (arith, c.place.ensures, placed_less c.args.down t.rules c.loop-i.i c.loop-i-test.true)

-- one rule more
turn :
    (c : After-branch-grew) (q : Outcome)
    → Settles c.row-row.result.code.now c.row-row.result.atoms c.row-row.result.at c.loop-i.m c.settle.new.m q
    → Step (Closed (table_rules c.args.t.now.code.now c.args.t.now.rules) c.args.t.now.atoms) c.args.t.now.atoms
    (Till (Visited c.args.t.now.code.now c.args.t.now.rules c.args.down) 0 (c.loop-i.i + 1)) c.args.m.now c.settle.new.m
    (after c.loop-i.grew q)
turn c q b =
    let t = c.args.t.now in
    let P = table_rules t.code.now t.rules in
    let s = rw (c.row-row.ensures.lent, c.row-row.ensures.atoms, c.row-row.ensures.at, c.place.ensures) at b in
    steps_more (Closed P t.atoms) t.atoms (Visited t.code.now t.rules c.args.down) 0 c.loop-i.i c.args.m.now _ _ c.loop-i.grew q
    c.loop-i.invariant s.kept
    (λ up. s.step P (rule_mem t.code.now t.rules _ (placed_less c.args.down t.rules c.loop-i.i c.loop-i-test.true)))

pub returns-in_err-grew : goal.returns-in_err-grew
returns-in_err-grew c =
    let t = c.args.t.now in
    rw (clashed _ c.from_residual.ensures.0)
    (clash_any (Closed (table_rules t.code.now t.rules) t.atoms) t.atoms (Till (Visited t.code.now t.rules c.args.down) 0 (c.loop-i.i + 1))
    (Till (λ k. Settled (row_rule t.code.now k)) 0 t.rules) _ _
    (turn (goal.at.returns-in_err-grew c).After-branch-grew (Err (record {})) c.in_err-grew.ensures))

pub loop-i-preserved : goal.loop-i-preserved
loop-i-preserved c = turn (goal.at.loop-i-preserved c).After-branch-grew (Ok c.in_ok-grew.field-0) c.in_ok-grew.ensures

pub returns : goal.returns
returns c =
    let t = c.args.t.now in
    quieter (Closed (table_rules t.code.now t.rules) t.atoms) t.atoms (Till (Visited t.code.now t.rules c.args.down) 0 t.rules)
    (Till (λ k. Settled (row_rule t.code.now k)) 0 t.rules) _ _ _ (visited (λ k. Settled (row_rule t.code.now k)) c.args.down t.rules _)
    (steps_end (Closed (table_rules t.code.now t.rules) t.atoms) t.atoms (Visited t.code.now t.rules c.args.down) 0 t.rules c.loop-i.i _ _ _
    c.loop-i-test.false c.loop-i.invariant)
