-- What `table` prints of a recording.
--   table_grid, table_gain   its classes: 64 of 1 N/mm² from 0 N/mm², where a raw value from 0 to 63 is its own level
--   text_of_samples          the table of a list of samples
--   text_of                  the table of a file
use Rattle.std.specs.Prelude.{ℕ, ℤ, pos, List, drop}
use Rattle.recording.specs.Samples.{samples}
use Rattle.calibration.specs.Gain.{GainValue}
use Rattle.calibration.specs.Grid.{GridValue}
use Rattle.calibration.specs.History.{history}
use Rattle.turning_points.specs.three_point.Run.{half_units}
use Rattle.monitor.specs.declared.grid.TheConstants.{CLASSES, REFERENCE, WIDTH, KPA}
use Rattle.segment.specs.Counts.{kinds_of}
use Rattle.report.specs.Texts.{table_text}
use Rattle.recording.specs.declared.head.TheConstants.{HEAD_LENGTH}

abbrev pub table_grid : GridValue
table_grid = record { classes = CLASSES; w2 = WIDTH; low_kpa = pos 0; reference = REFERENCE }

abbrev pub table_gain : GainValue
table_gain = record { num = KPA; den = 1; offset = pos 0 }

-- The half units are those of the three-point count over the whole level history.
abbrev pub text_of_samples : List ℤ → List ℕ
text_of_samples w =
    table_text table_grid (kinds_of table_grid table_gain w) (half_units (history table_grid table_gain w))

-- the body of a recording stands behind the 32 bytes of its head
abbrev pub text_of : List ℕ → List ℕ
text_of file = text_of_samples (samples (drop HEAD_LENGTH file))
