use Rattle.std.proofs.Common.{◌≡◌, ◌<◌, ◌≤◌, ℕ, length, slice_index_or}
use Rattle.count_workers.specs.collector.Settling.{SameFeeding, IsStillAwaited, BackFifo}
use Rattle.count_workers.proofs.collector.settling.settle_returns.Given as goal

abbrev pub invariant-loop-v : goal.invariant-loop-v
invariant-loop-v l = record {
  long : length l.returns ≡ length l.fn.returns;
  wide : length l.workers ≡ length l.fn.workers;
  returns : (u : ℕ) (d : _) → u < l.v → IsStillAwaited (slice_index_or l.fn.returns u d) (slice_index_or l.returns u d);
  workers : (u : ℕ) (d : _) → u < l.v → SameFeeding (slice_index_or l.fn.workers u d) (slice_index_or l.workers u d);
  fifo : (u : ℕ) (d : _) (e : _) → u < l.v → BackFifo (slice_index_or l.fn.workers u d) (slice_index_or l.fn.returns u e);
  rest_returns : (u : ℕ) (d : _) → l.v ≤ u → slice_index_or l.returns u d ≡ slice_index_or l.fn.returns u d;
  rest_workers : (u : ℕ) (d : _) → l.v ≤ u → slice_index_or l.workers u d ≡ slice_index_or l.fn.workers u d;
}
