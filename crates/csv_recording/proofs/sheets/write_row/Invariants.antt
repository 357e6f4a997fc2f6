use Rattle.std.proofs.Common.{ℕ, List, [], map, take}
use Rattle.csv_recording.specs.Sheet.{cells_at}
use Rattle.csv_recording.specs.Writers.{HasWrittenText}
use Rattle.csv_recording.proofs.sheets.write_row.Given as goal

abbrev pub invariant-loop-samples : goal.invariant-loop-samples
invariant-loop-samples l = (text : List ℕ) → HasWrittenText text [] l.fn.writer
    → HasWrittenText text (cells_at l.row (map (λ s. s.items) (take l.samples-index l.recordings))) l.writer
