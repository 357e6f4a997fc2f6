use Rattle.std.proofs.Common.{◌≡◌, ◌*◌, ◌^◌, ◌≤◌}
use Rattle.turning_points.specs.three_point.Sums.{sum_at_range}
use Rattle.segment.specs.Figures.{doubled_cycles}
use Rattle.segment.proofs.segment.Segment.cycles_at.Given as goal

abbrev pub invariant-loop-lo : goal.invariant-loop-lo
invariant-loop-lo l = record {
  sum : l.sum ≡ sum_at_range (doubled_cycles l.self) l.k l.lo;
  few : l.sum ≤ l.lo * 2 ^ 41;
}
