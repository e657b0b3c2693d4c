-- `forcing::ground::drop_all`: the atoms before the present one that are not in U are out, or something was added.
use Rattle.std.proofs.Common.{◌+◌, Ok}
use Rattle.forcing.specs.Inner.Ground.{Drops}
use Rattle.forcing.proofs.ground.drop_all.Given as goal

abbrev pub invariant-loop-a : goal.invariant-loop-a
invariant-loop-a l = Drops l.n l.u l.initial.m (l.a + 1) l.m (Ok l.grew)
