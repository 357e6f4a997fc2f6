use Rattle.std.proofs.Common.{◌≡◌, ◌<◌, ℕ, slice_index_or, false}
use Rattle.count_workers.proofs.collector.collecting.all_marked.Given as goal

abbrev pub invariant-loop-v : goal.invariant-loop-v
invariant-loop-v l = (u : ℕ) (d : _) → u < l.v → (slice_index_or l.fn.returns u d).awaited ≡ false
