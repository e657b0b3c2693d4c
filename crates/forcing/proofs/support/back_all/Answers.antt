-- `forcing::support::back_all`: the rules before the present one are backed, or something was added, from where the pass began.
use Prim.Native.Nat.{ℕ, ◌+◌}
use Rattle.rules.specs.Map.{side, Map}
use Rattle.rules.specs.Forcing.{Closed}
use Rattle.std.specs.Prelude.{Ok, Err}
use Rattle.table.specs.Inner.Rows.{row_rule, table_rules}
use Rattle.table.proofs.Rows.{rule_mem}
use Rattle.weigh.specs.Inner.Step.{Outcome, Till}
use Rattle.weigh.proofs.Steps.{after, clashed, clash_any, steps_more}
use Rattle.forcing.specs.Inner.Support.{Counts, Backed, BacksAll, Backs}
use Rattle.forcing.proofs.support.back_all.Goals as goal
use Rattle.forcing.proofs.support.back_all.Goals.{After-branch-grew}

Told : After-branch-grew → ℕ → Map → Type 0
Told c k M =
    let P = table_rules c.args.t.now.code.now c.args.t.now.rules in
    Counts P c.args.t.now.atoms M c.args.counts.now → Backed P (row_rule c.args.t.now.code.now k) M

-- one rule more
turn :
    (c : After-branch-grew) (q : Outcome) → Backs c.row.result.code.now c.row.result.atoms c.row.result.at c.args.counts.now c.loop-i.m c.back.new.m q
    → BacksAll c.args.t.now.code.now c.args.t.now.atoms c.args.t.now.rules c.args.counts.now (c.loop-i.i + 1) c.args.m.now c.back.new.m
    (after c.loop-i.grew q)
unfolding Told
turn c q b =
    let t = c.args.t.now in
    let P = table_rules t.code.now t.rules in
    let s = rw (c.row.ensures.lent, c.row.ensures.atoms, c.row.ensures.at) at b in
    steps_more (Closed P t.atoms) t.atoms (Told c) 0 c.loop-i.i c.args.m.now _ _ c.loop-i.grew q c.loop-i.invariant s.kept
    (λ up. s.step P (rule_mem t.code.now t.rules c.loop-i.i c.loop-i-test.true) (side t.atoms c.args.m.now) up c.requires.counted)

pub returns-in_err-grew : goal.returns-in_err-grew
unfolding Told
returns-in_err-grew c =
    let t = c.args.t.now in
    let before = (goal.at.returns-in_err-grew c).After-branch-grew in
    rw (clashed _ c.from_residual.ensures.0)
    (clash_any (Closed (table_rules t.code.now t.rules) t.atoms) t.atoms (Till (Told before) 0 (c.loop-i.i + 1)) (Till (Told before) 0 t.rules)
    _ _ (turn before (Err (record {})) c.in_err-grew.ensures))

pub loop-i-preserved : goal.loop-i-preserved
loop-i-preserved c = turn (goal.at.loop-i-preserved c).After-branch-grew (Ok c.in_ok-grew.field-0) c.in_ok-grew.ensures
