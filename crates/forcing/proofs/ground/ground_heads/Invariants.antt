-- `forcing::ground::ground_heads`: the heads before the present one are in U, unless they are out.
use Rattle.std.proofs.Common.{Ok}
use Rattle.forcing.specs.Inner.Ground.{GroundsHeads}
use Rattle.forcing.proofs.ground.ground_heads.Given as goal

abbrev pub invariant-loop-j : goal.invariant-loop-j
invariant-loop-j l = GroundsHeads l.row.code.now l.row.atoms l.row.at l.m l.initial.u l.j l.u (Ok l.grew)
