use Rattle.std.proofs.Common.{◌≡◌, ◌∙◌, [], ◌++◌, vec_items, refl, append-nil}
use Rattle.csv.specs.Writing.{writer_under, writer_pending}
use Rattle.csv_recording.specs.Sheet.{text_of_rows}
use Rattle.csv_recording.proofs.Writing.{begun}
use Rattle.csv_recording.proofs.sheets.text_of.Goals as goal

pub returns-in-Ok : goal.returns-in-Ok
unfolding text_of_rows
returns-in-Ok c =
    let from = c.from_writer-writer.ensures in
    let bytes : vec_items (writer_under c.from_writer-writer.result) ++ writer_pending c.from_writer-writer.result ≡ [] =
    rw (from.wtr, c.new-2.ensures.items, from.empty) refl in
    let start = begun c.from_writer-writer.result (from.cfg ∙ c.new.ensures) bytes from.fields from.wrote in
    let named = c.in_ok-write_names.ensures [] start in
    let all = c.in_ok-write_rows.ensures _ named in
    c.in-Ok.ensures.ok ∙ all.bytes ∙ append-nil _
