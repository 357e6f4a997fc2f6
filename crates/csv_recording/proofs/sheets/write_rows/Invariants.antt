use Rattle.std.proofs.Common.{ℕ, List, [], ◌++◌, map}
use Rattle.csv_recording.specs.Sheet.{rows_from, text_of_rows}
use Rattle.csv_recording.specs.Writers.{HasWrittenText}
use Rattle.csv_recording.proofs.sheets.write_rows.Given as goal

abbrev pub invariant-loop-row : goal.invariant-loop-row
invariant-loop-row l = (text : List ℕ) → HasWrittenText text [] l.fn.writer
    → HasWrittenText (text ++ text_of_rows (rows_from (map (λ s. s.items) l.recordings) 0 l.row)) [] l.writer
