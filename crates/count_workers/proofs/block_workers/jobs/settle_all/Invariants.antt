use Rattle.std.proofs.Common.{◌≡◌, ◌<◌, ℕ, length, slice_index_or}
use Rattle.count_workers.specs.block_workers.Jobs.{SameWork, SameRead, Fifo}
use Rattle.count_workers.proofs.block_workers.jobs.settle_all.Given as goal

abbrev pub invariant-loop-v : goal.invariant-loop-v
invariant-loop-v g l = record {
  wide : length l.workers ≡ length l.fn.workers;
  long : length l.readers ≡ length l.fn.readers;
  workers : (u : ℕ) (d : _) → SameWork (slice_index_or l.fn.workers u d) (slice_index_or l.workers u d);
  readers : (h : ℕ) (d : _) → SameRead (slice_index_or l.fn.readers h d) (slice_index_or l.readers h d);
  fifo : (u h : ℕ) (d : _) (e : _) → u < l.v → h < length l.fn.readers
      → Fifo (slice_index_or l.fn.workers u d) (slice_index_or l.fn.readers h e) h u;
}
