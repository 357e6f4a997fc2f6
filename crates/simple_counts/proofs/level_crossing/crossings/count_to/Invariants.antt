use Rattle.std.proofs.Common.{◌≡◌, ◌+◌, take, sum}
use Rattle.simple_counts.proofs.level_crossing.crossings.count_to.Given as goal

abbrev pub invariant-loop-i : goal.invariant-loop-i
invariant-loop-i l = l.count + sum (take l.i l.stops) ≡ sum (take l.i l.begins)
