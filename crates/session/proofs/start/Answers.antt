-- `start` meets its contract: the array that it makes has a 0 for every atom that a sheet can have.
use mathlib.Core.Path.{refl}
use Rattle.rules.specs.Limits.{atoms_most}
use Rattle.session.proofs.start.Goals as goal

pub returns : goal.returns
unfolding atoms_most
returns c = refl
