-- The levels so far are below.
use Rattle.std.proofs.Common.{ℕ, ◌<◌, slice_index_or}
use Rattle.bench_times.proofs.call_times.counts.are_below.Given as goal

abbrev pub invariant-loop-level : goal.invariant-loop-level
invariant-loop-level l = record {
  below : (k d : ℕ) → k < l.level-index → slice_index_or l.levels k d < l.classes;
}
