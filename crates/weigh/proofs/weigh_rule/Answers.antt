-- `weigh::weigh_rule`: the two runs of literals, each weighed, are the rule's body.
use mathlib.Core.Bool.{true, false}
use native.Mathlib.Omega.{arith}
use Rattle.rules.specs.Limits.{atoms_most, weight_most}
use Rattle.rules.specs.Map.{side}
use Rattle.weigh.specs.Inner.Weigh.{sees}
use Rattle.weigh.proofs.Weights.{seg_cast, value_runs, value_light}
use Rattle.weigh.proofs.weigh_rule.Goals as goal

pub weigh-requires : goal.weigh-requires
weigh-requires c =
    record { seg = seg_cast _ _ c.positives.ensures c.negatives-middle.ensures (c.args.row.now.stands.literals true); room = c.requires.first }

pub weigh-requires-2 : goal.weigh-requires-2
weigh-requires-2 c =
    record { seg = seg_cast _ _ c.negatives-middle.ensures c.end.ensures (c.args.row.now.stands.literals false); room = c.requires.second }

pub overflow_add-result : goal.overflow_add-result
unfolding atoms_most weight_most
overflow_add-result c =
    let a = c.args in
    let row = a.row.now in
    let p = sees a.seen (side row.atoms a.p.now) in
    let q = sees a.also (side row.atoms a.q.now) in
    omega (
      arith,
      value_runs row.code.now row.at p q c.weigh.ensures c.weigh-2.ensures c.positives.ensures c.negatives-middle.ensures c.end.ensures,
      value_light row.code.now row.at p q row.atoms row.stands,
    )

pub returns : goal.returns
returns c =
    let a = c.args in
    let row = a.row.now in
    let p = sees a.seen (side row.atoms a.p.now) in
    let q = sees a.also (side row.atoms a.q.now) in
    value_runs row.code.now row.at p q c.weigh.ensures c.weigh-2.ensures c.positives.ensures c.negatives-middle.ensures c.end.ensures
