use Rattle.std.proofs.Common.{◌≡◌, ◌<◌, ◌≤◌, ℕ, length, slice_index_or}
use Rattle.count_workers.specs.block_workers.Jobs.{ReadJob, SameSource}
use Rattle.count_workers.specs.running.Going.{GoesOn}
use Rattle.count_workers.proofs.running.lanes.run_readers.Given as goal

abbrev pub invariant-loop-g : goal.invariant-loop-g
invariant-loop-g h l = record {
  long : length l.readers ≡ length l.fn.readers;
  done : (u : ℕ) (d : _) → u < l.g
      → ReadJob h.C.Source.tells h.C.Source.left h.C.Source.faults (slice_index_or l.fn.readers u d) (slice_index_or l.readers u d);
  same : (u : ℕ) (d : _) → u < l.g → SameSource h.C.Source.number (slice_index_or l.fn.readers u d).src (slice_index_or l.readers u d).src;
  rest : (u : ℕ) (d : _) → l.g ≤ u → slice_index_or l.readers u d ≡ slice_index_or l.fn.readers u d;
  on : GoesOn l.fn.workers l.workers l.fn.depot l.depot l.fn.returns l.returns;
}
