-- `on_table` meets its contract: a table of each size has room for the sheets that are given it.
use native.Mathlib.Omega.{arith}
use Rattle.rules.specs.Limits.{bytes_most}
use Rattle.table.specs.Inner.Words.{pair_width}
use Rattle.decode.specs.Inner.Decode.{few_bytes, some_bytes, many_bytes, large_bytes, table_words}
use Rattle.desk.proofs.run.Laws.{few_words, short_sheet}
use Rattle.desk.proofs.run.on_table.Goals as goal

pub on_words-requires-clause-room : goal.on_words-requires-clause-room
unfolding few_bytes table_words pair_width
on_words-requires-clause-room g c = few_words _ _ c.requires.accepted few_bytes c.if-s-le-FEW_BYTES.true

pub on_words-requires-clause-small : goal.on_words-requires-clause-small
unfolding table_words pair_width bytes_most
on_words-requires-clause-small g c = omega arith

pub on_words-requires-then-s-le-SOME_BYTES-clause-room : goal.on_words-requires-then-s-le-SOME_BYTES-clause-room
unfolding some_bytes table_words pair_width
on_words-requires-then-s-le-SOME_BYTES-clause-room g c = few_words _ _ c.requires.accepted some_bytes c.if-s-le-SOME_BYTES.true

pub on_words-requires-then-s-le-SOME_BYTES-clause-small : goal.on_words-requires-then-s-le-SOME_BYTES-clause-small
unfolding table_words pair_width bytes_most
on_words-requires-then-s-le-SOME_BYTES-clause-small g c = omega arith

pub on_words-requires-then-s-le-MANY_BYTES-clause-room : goal.on_words-requires-then-s-le-MANY_BYTES-clause-room
unfolding many_bytes table_words pair_width
on_words-requires-then-s-le-MANY_BYTES-clause-room g c = few_words _ _ c.requires.accepted many_bytes c.if-s-le-MANY_BYTES.true

pub on_words-requires-then-s-le-MANY_BYTES-clause-small : goal.on_words-requires-then-s-le-MANY_BYTES-clause-small
unfolding table_words pair_width bytes_most
on_words-requires-then-s-le-MANY_BYTES-clause-small g c = omega arith

pub on_words-requires-then-s-le-LARGE_BYTES-clause-room : goal.on_words-requires-then-s-le-LARGE_BYTES-clause-room
unfolding large_bytes table_words pair_width
on_words-requires-then-s-le-LARGE_BYTES-clause-room g c = few_words _ _ c.requires.accepted large_bytes c.if-s-le-LARGE_BYTES.true

pub on_words-requires-then-s-le-LARGE_BYTES-clause-small : goal.on_words-requires-then-s-le-LARGE_BYTES-clause-small
unfolding table_words pair_width bytes_most
on_words-requires-then-s-le-LARGE_BYTES-clause-small g c = omega arith

pub on_words-requires-2-clause-room : goal.on_words-requires-2-clause-room
unfolding bytes_most table_words pair_width
on_words-requires-2-clause-room g c = few_words _ _ c.requires.accepted bytes_most (short_sheet _ _ c.requires.accepted)

pub on_words-requires-2-clause-small : goal.on_words-requires-2-clause-small
unfolding bytes_most table_words pair_width
on_words-requires-2-clause-small g c = omega arith
