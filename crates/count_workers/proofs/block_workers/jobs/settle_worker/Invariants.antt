use Rattle.std.proofs.Common.{◌≡◌, ◌<◌, ℕ, length, slice_index_or}
use Rattle.count_workers.specs.block_workers.Jobs.{SameWork, SameRead, Fifo}
use Rattle.count_workers.proofs.block_workers.jobs.settle_worker.Given as goal

abbrev pub invariant-loop-g : goal.invariant-loop-g
invariant-loop-g g l = record {
  long : length l.readers ≡ length l.fn.readers;
  worker : SameWork l.fn.worker l.worker;
  readers : (h : ℕ) (d : _) → SameRead (slice_index_or l.fn.readers h d) (slice_index_or l.readers h d);
  fifo : (h : ℕ) (d : _) → h < l.g → Fifo l.fn.worker (slice_index_or l.fn.readers h d) h l.v;
}
