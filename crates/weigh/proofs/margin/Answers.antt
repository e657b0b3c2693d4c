-- `weigh::margin`: a reach and a need are numbers of 32 bits, so their difference fits.
use Rattle.std.proofs.Common.{arith}
use Rattle.std.proofs.lemmas.Int.{ints}
use Rattle.rules.specs.Map.{margin}
use Rattle.weigh.proofs.margin.Goals as goal

pub returns : goal.returns
unfolding margin
returns c = grind (arith, ints)
