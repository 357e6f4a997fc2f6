use Rattle.std.proofs.Common.{◌≡◌, ◌<◌, ℕ, length, take, get_or}
use Rattle.std.specs.Prelude.{map}
use Rattle.calibration.specs.declared.limits.TheConstants.{MAX_SAMPLES}
use Rattle.recording.specs.declared.head.Head.{Head}
use Rattle.segment.specs.Segment.{SegmentValue, empty_at}
use Rattle.report_command.proofs.window_counts.counting.Windows.new.Given as goal

abbrev pub invariant-loop-gauge : goal.invariant-loop-gauge
invariant-loop-gauge l = record {
  periods : l.periods.items ≡ map (λ (h : Head). h.period_us) (take l.gauge l.heads);
  count : length l.joined.items ≡ l.gauge;
  empty : (g : ℕ) (d : SegmentValue) → g < length l.joined.items → get_or l.joined.items g d ≡ empty_at l.grid g 0 MAX_SAMPLES;
}
