-- The grid stays.
use Rattle.std.proofs.Common.{◌≡◌}
use Rattle.bench_times.specs.call_times.Counts.{SameGrid}
use Rattle.bench_times.proofs.call_times.counts.simple_by_points.Given as goal

abbrev pub invariant-loop-i : goal.invariant-loop-i
invariant-loop-i l = record {
  classes : l.simple.classes ≡ l.classes;
  same : SameGrid l.simple l.crossings;
  grid : l.classes ≡ l.grid.classes;
}
