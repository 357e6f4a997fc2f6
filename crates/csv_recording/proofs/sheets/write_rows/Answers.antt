use Rattle.std.proofs.Common.{◌≡◌, ◌+◌, arith, append-nil, append_assoc, map}
use Rattle.csv.specs.Writing.{default_writer, row_text}
use Rattle.csv_recording.specs.Sheet.{cells_at, rows_from, text_of_rows}
use Rattle.csv_recording.proofs.Writing.{rows_next}
use Rattle.csv_recording.proofs.sheets.write_rows.Goals as goal

pub loop-row-init : goal.loop-row-init
unfolding text_of_rows rows_from
loop-row-init c text h = rw (append-nil text) h

pub loop-row-preserved : goal.loop-row-preserved
loop-row-preserved c text h =
    let recordings = map (λ s. s.items) c.args.recordings.now in
    let done = text_of_rows (rows_from recordings 0 c.loop-row.row) in
    let row : 0 + c.loop-row.row ≡ c.loop-row.row = omega arith in
    let whole = append_assoc text done (row_text default_writer (cells_at c.loop-row.row recordings)) in
    let before = c.in_ok-write_row.ensures _ (c.loop-row.invariant text h) in
    rw (rows_next recordings 0 c.loop-row.row, row, ← whole) before
