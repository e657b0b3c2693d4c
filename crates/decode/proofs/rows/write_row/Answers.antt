-- `write_row` meets its contract. The five words are written one after another; a kind's number is small.
use Rattle.std.proofs.Common.{subst, sym, ◌≤◌, ℕ}
use Rattle.rules.specs.Limits.{number_most}
use Rattle.decode.proofs.rows.Laws.{kind_fits}
use Rattle.decode.proofs.rows.write_row.Goals as goal

pub set_word-requires-clause-fits : goal.set_word-requires-clause-fits
set_word-requires-clause-fits c =
    subst (λ (k : ℕ). k ≤ number_most) (sym c.number.ensures) (kind_fits c.args.kind)
