-- `weigh::side_of`: the byte of an atom of 1 to n is its side.
use mathlib.Core.Path.{sym}
use Rattle.rules.proofs.Bytes.{side_at}
use Rattle.weigh.proofs.side_of.Goals as goal

pub returns : goal.returns
returns c = sym (side_at c.args.n c.args.m.now c.args.a c.requires.within)
