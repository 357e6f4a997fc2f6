-- The grid stays.
use Rattle.std.proofs.Common.{◌≡◌}
use Rattle.bench_times.specs.call_times.Counts.{SameGrid}
use Rattle.bench_times.proofs.call_times.counts.count_simple_block.Given as goal

abbrev pub invariant-loop : goal.invariant-loop
invariant-loop l = record {
  classes : l.simple.classes ≡ l.classes;
  same : SameGrid l.simple l.crossings;
}
