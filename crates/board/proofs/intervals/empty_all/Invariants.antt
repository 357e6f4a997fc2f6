use Rattle.std.proofs.Common.{◌≡◌, ◌<◌, ◌≤◌, ℕ, length, slice_index_or}
use Rattle.segment.specs.Segment.{SegmentValue}
use Rattle.board.specs.Clearing.{IsCleared, empty_like}
use Rattle.board.proofs.intervals.empty_all.Given as goal

-- the places before this one are empty, and the others as before
abbrev pub invariant-loop-k : goal.invariant-loop-k
invariant-loop-k l = record {
  long : length l.slots ≡ length l.fn.slots;
  first : (d : SegmentValue) → 0 < l.k → slice_index_or l.slots 0 d ≡ empty_like l.gauge l.start (slice_index_or l.fn.slots 0 d);
  done : (k : ℕ) (d : SegmentValue) → k < l.k → IsCleared l.gauge l.start (slice_index_or l.fn.slots k d) (slice_index_or l.slots k d);
  rest : (k : ℕ) (d : SegmentValue) → l.k ≤ k → slice_index_or l.slots k d ≡ slice_index_or l.fn.slots k d;
}
