-- `model_line`: the line names the in-atoms among 1 to `i`.
use Rattle.std.proofs.Common.{◌≡◌, ◌++◌}
use Rattle.text.specs.Line.{model_word, spaced_all, in_atoms}
use Rattle.text.proofs.model_line.Given as goal

abbrev pub invariant-loop-i : goal.invariant-loop-i
invariant-loop-i l = l.names.bytes ≡ model_word ++ spaced_all (in_atoms l.i l.map)
