use Rattle.std.proofs.Common.{◌≡◌, ◌-◌, ◌<◌, ◌≤◌, ◌^◌, ℕ, length, get_or}
use Rattle.turning_points.specs.three_point.Sums.{sum_at_range}
use Rattle.segment.specs.Figures.{doubled_cycles}
use Rattle.segment.proofs.segment.Segment.put_cycles.Given as goal

abbrev pub invariant-loop-k : goal.invariant-loop-k
invariant-loop-k l = record {
  none : get_or l.out 0 0 ≡ 0;
  each : (j : ℕ) → 1 ≤ j → j < l.k → get_or l.out j 0 ≡ sum_at_range (doubled_cycles l.self) j (l.self.grid.classes - j);
  few : (j : ℕ) → get_or l.out j 0 ≤ 2 ^ 62;
  length : length l.out ≡ length l.initial.out;
}
