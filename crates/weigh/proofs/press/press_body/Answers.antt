-- `weigh::press::press_body`: the two runs of literals, each pressed, are the rule's body.
use mathlib.Core.Path.{sym, subst}
use mathlib.Core.Bool.{true, false, not}
use Rattle.std.specs.Prelude.{Ok, Err}
use Rattle.weigh.specs.Inner.Step.{Decided}
use Rattle.weigh.proofs.Presses.{want_sided, body_pressed, body_clash}
use Rattle.weigh.proofs.Steps.{clashed}
use Rattle.weigh.proofs.Weights.{seg_cast}
use Rattle.weigh.proofs.press.press_body.Goals as goal

pub press_run-requires : goal.press_run-requires
press_run-requires c =
    record {
      seg = seg_cast _ _ c.positives.ensures c.negatives-middle.ensures (c.args.row.now.stands.literals true);
      proper = c.requires;
      decided = subst Decided (sym c.side_for.ensures) (want_sided c.args.truth);
    }

pub returns-in_err-first : goal.returns-in_err-first
returns-in_err-first c =
    let a = c.args in
    rw (clashed _ c.from_residual.ensures.0)
    (body_clash a.row.now.code.now a.row.now.atoms a.row.now.at a.least a.truth a.m.now c.requires _ c.positives.ensures
    c.negatives-middle.ensures c.side_for.ensures c.in_err-first.ensures)

pub press_run-requires-2 : goal.press_run-requires-2
press_run-requires-2 c =
    record {
      seg = seg_cast _ _ c.negatives-middle.ensures c.end.ensures (c.args.row.now.stands.literals false);
      proper = c.press_run.ensures.kept.proper;
      decided = subst Decided (sym c.side_for-2.ensures) (want_sided (not c.args.truth));
    }

pub returns-in_err-second : goal.returns-in_err-second
returns-in_err-second c =
    let a = c.args in
    rw (clashed _ c.from_residual-in_err-second.ensures.0)
    (body_pressed a.row.now.code.now a.row.now.atoms a.row.now.at a.least a.truth a.m.now c.requires _ _ c.in_ok-first.first
    (Err (record {})) c.positives.ensures c.negatives-middle.ensures c.end.ensures c.side_for.ensures c.side_for-2.ensures
    c.in_ok-first.ensures c.in_err-second.ensures)

pub returns : goal.returns
returns c =
    let a = c.args in
    body_pressed a.row.now.code.now a.row.now.atoms a.row.now.at a.least a.truth a.m.now c.requires _ _ c.in_ok-first.first
    (Ok c.in_ok-second.second) c.positives.ensures c.negatives-middle.ensures c.end.ensures c.side_for.ensures c.side_for-2.ensures
    c.in_ok-first.ensures c.in_ok-second.ensures
