-- The grid stays.
use Rattle.std.proofs.Common.{◌≡◌, length}
use Rattle.bench_times.proofs.call_times.counts.crossings_by_points.Given as goal

abbrev pub invariant-loop-i : goal.invariant-loop-i
invariant-loop-i l = record {
  classes : l.crossings.classes ≡ l.classes;
  places : length l.extremes.items ≡ l.classes;
  grid : l.classes ≡ l.grid.classes;
}
