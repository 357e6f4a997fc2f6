use Rattle.std.proofs.Common.{◌≡◌, ◌<◌, ℕ, length, slice_index_or}
use Rattle.calibration.specs.declared.limits.TheConstants.{MAX_GAUGES}
use Rattle.count_workers.specs.lane_loans.Lent.{at_of}
use Rattle.count_workers.proofs.lane_loans.lanes.begin_windows.Given as goal

abbrev pub invariant-loop-g : goal.invariant-loop-g
invariant-loop-g h l = record {
  long : length l.starts ≡ MAX_GAUGES;
  done : (u : ℕ) → u < l.g → slice_index_or l.starts u 0 ≡ at_of l.fn.lanes u;
}
