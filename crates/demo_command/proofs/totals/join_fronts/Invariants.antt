use Rattle.std.proofs.Common.{◌≡◌, ◌≤◌, ◌<◌, ℕ, length, slice_index_or}
use Rattle.segment.specs.Segment.{SegmentValue}
use Rattle.demo_command.specs.declared.made.TheConstants.{GAUGES}
use Rattle.demo_command.specs.Totals.{HasJoined}
use Rattle.demo_command.proofs.totals.join_fronts.Given as goal

-- the gauges before this one have their fronts
abbrev pub invariant-loop-gauge : goal.invariant-loop-gauge
invariant-loop-gauge l = record {
  long : length l.totals ≡ GAUGES;
  joined : (g : ℕ) (d : SegmentValue) → g < l.gauge
      → HasJoined l.prepared.board g (slice_index_or l.fn.totals g d) (slice_index_or l.totals g d);
  others : (g : ℕ) (d : SegmentValue) → l.gauge ≤ g → slice_index_or l.totals g d ≡ slice_index_or l.fn.totals g d;
}
