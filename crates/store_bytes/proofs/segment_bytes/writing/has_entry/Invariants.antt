use Rattle.std.proofs.Common.{◌≡◌, ◌+◌, drop}
use Rattle.store_bytes.specs.segment_bytes.Writing.{bins_of}
use Rattle.store_bytes.proofs.segment_bytes.writing.has_entry.Given as goal

abbrev pub invariant-loop-n : goal.invariant-loop-n
invariant-loop-n l = bins_of (l.key + l.n-index) (drop l.n-index l.counts) ≡ bins_of l.key l.counts
