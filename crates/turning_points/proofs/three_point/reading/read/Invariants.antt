use Rattle.std.proofs.Common.{◌≡◌, ◌+◌, ◌<◌, ◌≤◌, ◌++◌, List, reverse, take}
use Rattle.std.specs.Prelude.{All}
use Rattle.turning_points.specs.three_point.Run.{CountedRange, live_after, ranges_counted}
use Rattle.turning_points.proofs.on_three_point.Handed.{Holding}
use Rattle.turning_points.proofs.three_point.reading.read.Given as goal

-- what is live after the point, and what was counted with what is left to count, stay the same
abbrev pub invariant-loop-len : goal.invariant-loop-len
invariant-loop-len g l = record {
  fewer : l.len ≤ l.initial.len;
  below : All (λ x. x < g.C.RangeCounter.classes l.counter) (take l.len l.live);
  live : live_after l.point (reverse (take l.len l.live)) ≡ live_after l.point (reverse (take l.initial.len l.initial.live));
  counted : (given : List CountedRange) → g.C.RangeCounter.holds l.initial.counter given →
      Holding (g.C.RangeCounter.holds l.counter) (ranges_counted l.point (reverse (take l.len l.live)))
      (given ++ ranges_counted l.point (reverse (take l.initial.len l.initial.live)));
  room : g.C.RangeCounter.room l.initial.counter + l.len ≤ g.C.RangeCounter.room l.counter + l.initial.len;
  classes : g.C.RangeCounter.classes l.counter ≡ g.C.RangeCounter.classes l.initial.counter;
}

abbrev pub decreases-loop-len : goal.decreases-loop-len
decreases-loop-len g l = l.len
