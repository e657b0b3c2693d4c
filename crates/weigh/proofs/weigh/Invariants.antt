-- `weigh::weigh`: what is summed and what the rest weighs is what the whole run weighs, at each turn. So no sum is more
-- than the whole, which fits.
use Prim.Native.Nat.{◌+◌}
use mathlib.Core.Path.{◌≡◌}
use Rattle.rules.specs.Stable.{gain}
use Rattle.rules.specs.Map.{side}
use Rattle.table.specs.Inner.Words.{seg}
use Rattle.weigh.specs.Inner.Weigh.{sees}
use Rattle.weigh.proofs.weigh.Given as goal

abbrev pub invariant-loop-j : goal.invariant-loop-j
invariant-loop-j l =
    let p = sees l.seen (side l.row.atoms l.m) in l.sum + gain p (seg l.row.code.now l.j l.to) ≡ gain p (seg l.row.code.now l.from l.to)
