use Rattle.std.proofs.Common.{◌≡◌, ◌<◌, ◌≤◌, ◌*◌, ℕ, slice_index_or, vec_len, vec_capacity}
use Rattle.segment.specs.Segment.{SegmentValue, empty_at}
use Rattle.board.specs.declared.flow.TheConstants.{BLOCKS_PER_WINDOW}
use Rattle.board.proofs.intervals.Intervals.new.Given as goal

abbrev pub invariant-loop : goal.invariant-loop
invariant-loop l = record {
  long : vec_len l.slots ≡ l.counter;
  room : BLOCKS_PER_WINDOW ≤ vec_capacity l.slots;
  each : (k : ℕ) (d : SegmentValue) → k < l.counter →
      slice_index_or l.slots.items k d ≡ empty_at l.fn.grid l.fn.gauge 0 (BLOCKS_PER_WINDOW * l.fn.block);
}
