-- `write_rules` meets its contract. The loop's invariant: the rules before this one stand in the rows that are kept, each once, and what is
-- left of them has room.
use Rattle.decode.proofs.rows.Writing.{WritingOne}
use Rattle.decode.proofs.rows.write_rules.Given as goal

abbrev pub invariant-loop-i : goal.invariant-loop-i
invariant-loop-i l =
    WritingOne l.s l.wanted l.initial.code l.code l.kept l.i l.rows.count l.rows.pair l.rows.row l.rows.next
