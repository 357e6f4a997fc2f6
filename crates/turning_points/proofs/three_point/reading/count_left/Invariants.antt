use Rattle.std.proofs.Common.{◌≡◌, ◌+◌, ◌≤◌, ◌++◌, max, List, reverse, take}
use Rattle.turning_points.specs.three_point.Run.{CountedRange, ranges_left}
use Rattle.turning_points.proofs.three_point.reading.count_left.Given as goal

-- the ranges between the first i places were counted
abbrev pub invariant-loop-i : goal.invariant-loop-i
invariant-loop-i g l = record {
  within : l.i ≤ max 1 l.len;
  counted : (given : List CountedRange) → g.C.RangeCounter.holds l.initial.counter given →
      g.C.RangeCounter.holds l.counter (given ++ ranges_left (reverse (take l.i l.live)));
  room : g.C.RangeCounter.room l.initial.counter + 1 ≤ g.C.RangeCounter.room l.counter + l.i;
  classes : g.C.RangeCounter.classes l.counter ≡ g.C.RangeCounter.classes l.initial.counter;
}
