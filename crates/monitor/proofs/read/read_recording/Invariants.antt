use Rattle.std.proofs.Common.{◌≤◌, ◌≡◌, length, ℤ, List, drop}
use Rattle.monitor.specs.Printed.{table_grid, table_gain}
use Rattle.monitor.specs.Figures.{AreFigures}
use Rattle.recording.proofs.Reading.{Splits}
use Rattle.calibration.specs.declared.limits.TheConstants.{MAX_SAMPLES}
use Rattle.recording.specs.declared.TheConstants.{PIECE}
use Rattle.monitor.proofs.read.read_recording.Given as goal
use Rattle.recording.specs.declared.head.TheConstants.{HEAD_LENGTH}

-- the readings are those of some samples, and the body has these and then those that are left
abbrev pub invariant-loop : goal.invariant-loop
invariant-loop g l = record {
  read : (w : List ℤ) × AreFigures table_grid table_gain l.figures w
      × (g.S.Source.tells → Splits (drop HEAD_LENGTH (g.S.Source.left l.fn.src)) w (g.S.Source.left l.src));
  turns : l.counter ≤ l.figures.counts.samples;
  few : l.figures.counts.samples ≤ MAX_SAMPLES;
  later : g.S.Source.faults l.fn.src ≤ g.S.Source.faults l.src;
  raws : length l.raws ≡ PIECE;
  levels : length l.levels ≡ PIECE;
}
