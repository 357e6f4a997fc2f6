use Rattle.std.proofs.Common.{◌≡◌, ◌<◌, ◌≤◌, ℕ, length, slice_index_or}
use Rattle.count_workers.specs.lane_loans.Lent.{CanRound}
use Rattle.bench_times.proofs.round_times.counting.count.Given as goal

abbrev pub invariant-loop-made : goal.invariant-loop-made
invariant-loop-made g l = record {
  some : 1 ≤ length l.lanes;
  gauges : l.fn.gauges ≡ l.prepared.gauges;
  long : length l.lanes ≡ l.prepared.gauges;
  lanes : (g : ℕ) (d : _) → g < length l.lanes → CanRound g (slice_index_or l.lanes g d);
}
