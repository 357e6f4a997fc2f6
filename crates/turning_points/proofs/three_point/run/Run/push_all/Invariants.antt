use Rattle.std.proofs.Common.{◌≡◌, ℕ, ◌+◌, ◌≤◌, ◌++◌, List, take, reverse}
use Rattle.turning_points.specs.three_point.Live.{HasCounted, IsRunBuffer}
use Rattle.turning_points.proofs.three_point.run.Run.push_all.Given as goal

-- after the first points
abbrev pub invariant-loop-point : goal.invariant-loop-point
invariant-loop-point g l = record {
  buffer : IsRunBuffer l.fn.self.classes l.places l.len;
  counted : (before : List ℕ) → HasCounted before (reverse (take l.initial.len l.initial.places))
      (g.C.RangeCounter.holds l.initial.counter) →
      HasCounted (before ++ take l.point-index l.points) (reverse (take l.len l.places)) (g.C.RangeCounter.holds l.counter);
  room : g.C.RangeCounter.room l.initial.counter + l.len ≤ g.C.RangeCounter.room l.counter + l.initial.len + l.point-index;
  classes : g.C.RangeCounter.classes l.counter ≡ g.C.RangeCounter.classes l.initial.counter;
}
