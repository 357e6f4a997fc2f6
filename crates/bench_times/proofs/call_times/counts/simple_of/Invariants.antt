-- The grid stays.
use Rattle.std.proofs.Common.{◌≡◌}
use Rattle.bench_times.proofs.call_times.counts.simple_of.Given as goal

abbrev pub invariant-loop-level : goal.invariant-loop-level
invariant-loop-level l = record {
  classes : l.simple.classes ≡ l.grid.classes;
}
