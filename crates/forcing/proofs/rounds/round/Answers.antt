-- `forcing::rounds::round`: a pass that adds something ends the round, and three that add nothing leave a closed map.
use mathlib.Core.Path.{sym, ◌∙◌}
use mathlib.Core.Bool.{true≢false}
use Rattle.std.specs.Prelude.{Ok}
use Rattle.forcing.proofs.Closings.{round_whole}
use Rattle.forcing.proofs.rounds.round.Goals as goal
use Rattle.forcing.proofs.rounds.round.Goals.{then-branch, else-branch+in_ok-drop_round}

pub returns-in_ok-settle_all : goal.returns-in_ok-settle_all
returns-in_ok-settle_all c =
    let t = c.args.t.now in
    elim c.if-branch.branch [
      | then-branch w ↦ absurd (true≢false (sym w.if-branch.true ∙ sym w.value-is ∙ c.if-branch-2.false))
      | else-branch+in_ok-drop_round w ↦ round_whole t.code.now t.atoms t.rules t.laid _ _ _ _ (Ok c.in_ok-settle_all.field-0) c.requires
          (rw w.if-branch.false at c.in_ok-back_round.ensures)
          (rw (sym w.value-is ∙ c.if-branch-2.false) at w.in_ok-drop_round.ensures)
          (rw w.m-is at c.in_ok-settle_all.ensures)
    ]
