-- `back_round` meets its contract: where no atom is in, none undecided, or none has one rule, there is nothing to add; else the counts,
-- which begin at zero, say by which rule.
use Prim.Native.Nat.{ℕ, ◌≤◌}
use mathlib.Core.Path.{sym, subst}
use Rattle.rules.specs.Limits.{atoms_most}
use Rattle.weigh.proofs.Bytes.{blank_room, blank_side}
use Rattle.forcing.proofs.Closings.{none_with, equals_none, backed, backed_idle, backed_whole, backed_more}
use Rattle.forcing.proofs.rounds.back_round.Goals as goal

pub returns-then-is_none : goal.returns-then-is_none
returns-then-is_none c =
    let t = c.args.t.now in
    backed_idle t.code.now t.atoms t.rules c.args.m.now c.requires (none_with c.args.m.now c.first_with.result c.if-is_none.ensures c.first_with.ensures)

pub returns-then-is_whole : goal.returns-then-is_whole
returns-then-is_whole c =
    let t = c.args.t.now in
    backed_whole t.code.now t.atoms t.rules t.laid c.args.m.now c.requires
    (none_with c.args.m.now c.lowest-first_open.result (equals_none _ c.if-is_whole.ensures) c.lowest-first_open.ensures)

pub count_all-requires-clause-space : goal.count_all-requires-clause-space
unfolding atoms_most
count_all-requires-clause-space c = blank_room atoms_most _ c.args.t.now.laid.few_atoms

pub count_all-requires-clause-none : goal.count_all-requires-clause-none
unfolding atoms_most
count_all-requires-clause-none c x w = blank_side atoms_most _ c.args.t.now.laid.few_atoms x

-- there is a count for each atom
pub first_with-requires-2 : goal.first_with-requires-2
unfolding atoms_most
first_with-requires-2 c =
    subst (λ (x : ℕ). c.args.t.now.atoms ≤ x) (sym c.count_all.auto.counts) (blank_room atoms_most _ c.args.t.now.laid.few_atoms)

pub returns-then-is_none-2 : goal.returns-then-is_none-2
returns-then-is_none-2 c =
    let t = c.args.t.now in
    backed_more t.code.now t.atoms t.rules c.args.m.now _ c.requires c.count_all.ensures
    (none_with c.count_all.new.counts c.first_with-2.result c.if-is_none-2.ensures c.first_with-2.ensures)

pub back_all-requires-clause-space : goal.back_all-requires-clause-space
unfolding atoms_most
back_all-requires-clause-space c =
    subst (λ (x : ℕ). c.args.t.now.atoms ≤ x) (sym c.count_all.auto.counts) (blank_room atoms_most _ c.args.t.now.laid.few_atoms)

pub returns : goal.returns
returns c =
    let t = c.args.t.now in
    backed t.code.now t.atoms t.rules _ _ _ _ c.count_all.ensures c.back_all.ensures
