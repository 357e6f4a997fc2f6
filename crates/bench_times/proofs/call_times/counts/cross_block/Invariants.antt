-- The grid stays.
use Rattle.std.proofs.Common.{◌≡◌, length}
use Rattle.bench_times.proofs.call_times.counts.cross_block.Given as goal

abbrev pub invariant-loop : goal.invariant-loop
invariant-loop l = record {
  classes : l.crossings.classes ≡ l.classes;
  places : length l.extremes.items ≡ l.classes;
}
