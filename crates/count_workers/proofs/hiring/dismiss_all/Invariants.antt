use Rattle.std.proofs.Common.{◌≡◌, ◌<◌, ◌≤◌, ℕ, length, slice_index_or}
use Rattle.count_workers.specs.Hiring.{SameButLine}
use Rattle.count_workers.proofs.hiring.dismiss_all.Given as goal

abbrev pub invariant-loop-v : goal.invariant-loop-v
invariant-loop-v l = record {
  long : length l.workers ≡ length l.fn.workers;
  done : (u : ℕ) (d : _) → u < l.v → SameButLine (slice_index_or l.fn.workers u d) (slice_index_or l.workers u d);
  rest : (u : ℕ) (d : _) → l.v ≤ u → slice_index_or l.workers u d ≡ slice_index_or l.fn.workers u d;
}
