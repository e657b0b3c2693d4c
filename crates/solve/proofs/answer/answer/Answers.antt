-- `answer` meets its contract: each line is that of the answer that solve gave.
use Prim.Native.Nat.{ℕ}
use mathlib.Core.Path.{◌∙◌, ap}
use Rattle.std.specs.Prelude.{Ok}
use Rattle.rules.specs.Limits.{atoms_most}
use Rattle.text.specs.Line.{refused_line}
use Rattle.solve.proofs.Lines.{answered, model_answered}
use Rattle.solve.proofs.answer.answer.Goals as goal

pub returns-in-Ok-Model : goal.returns-in-Ok-Model
unfolding atoms_most
returns-in-Ok-Model c =
    model_answered _ (c.in-Ok-Model.is ∙ ap Ok c.in-Ok-Model.field-0-is) c.solve.ensures c.atoms.ensures c.model_line.ensures

pub returns-in-Ok-NoModel : goal.returns-in-Ok-NoModel
unfolding atoms_most
returns-in-Ok-NoModel c = answered _ (c.in-Ok-NoModel.is ∙ ap Ok c.in-Ok-NoModel.field-0-is) c.solve.ensures c.none_line.ensures

pub returns-in-Err : goal.returns-in-Err
unfolding atoms_most
returns-in-Err c =
    answered _ c.in-Err.is c.solve.ensures (c.refused_line.ensures ∙ ap (λ (k : ℕ). refused_line k c.in-Err.why.place) c.number.ensures)
