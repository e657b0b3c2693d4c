-- The cycle of calls {choose, follow, trial}: a guess leaves fewer undecided atoms, and between two guesses choose, trial and follow come
-- in this order, so three times that number falls at every call.
use Prim.Native.Nat.{◌+◌, ◌*◌}
use Rattle.rules.specs.Map.{undecided}
use Rattle.search.proofs.+choose_follow_trial.Given as goal

abbrev pub decreases-choose : goal.decreases-choose
decreases-choose l = 3 * undecided l.t.now.atoms l.map + 2

abbrev pub decreases-follow : goal.decreases-follow
decreases-follow l = 3 * undecided l.t.now.atoms l.map

abbrev pub decreases-trial : goal.decreases-trial
decreases-trial l = 3 * undecided l.t.now.atoms l.map + 1
