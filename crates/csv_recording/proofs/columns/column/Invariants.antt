use Rattle.std.proofs.Common.{length, vec_len}
use Rattle.csv_recording.specs.Column.{column_of}
use Rattle.csv_recording.specs.Rows.{IsPlain, rows_left, text_left}
use Rattle.csv_recording.proofs.ColumnFacts.{Asks}
use Rattle.csv_recording.proofs.columns.column.Given as goal

abbrev pub invariant-rows : goal.invariant-rows
invariant-rows l = record {
  plain : IsPlain l.reader;
  asks : Asks (column_of l.fn.name l.fn.bytes) l.samples.items l.place (vec_len l.samples) (rows_left l.reader);
}

abbrev pub decreases-rows : goal.decreases-rows
decreases-rows l = length (text_left l.reader)
