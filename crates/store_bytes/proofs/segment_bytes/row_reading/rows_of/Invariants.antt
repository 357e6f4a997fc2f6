use Rattle.std.proofs.Common.{◌≡◌, ◌≤◌, ◌*◌, ◌-◌, ◌^◌, length}
use Rattle.store_bytes.specs.segment_bytes.Fields.{entry_list}
use Rattle.store_bytes.specs.segment_bytes.Grammar.{row_at}
use Rattle.store_bytes.specs.segment_bytes.RowReading.{no_rows, with_rows}
use Rattle.store_bytes.specs.segment_bytes.Views.{see_rows}
use Rattle.store_bytes.proofs.on_segment_bytes.Loops.{seen}
use Rattle.store_bytes.proofs.segment_bytes.row_reading.rows_of.Given as goal

abbrev pub invariant-loop : goal.invariant-loop
invariant-loop l = record {
  so_far : seen (with_rows l.classes (see_rows l.rows)) (entry_list row_at (l.count - l.counter) l.have l.rest) ≡ seen
      (with_rows l.classes no_rows) (entry_list row_at l.count l.have l.bytes);
  within : length l.rest ≤ length l.bytes;
  few : length l.rows.cells.items ≤ l.counter * 2 ^ 16;
}
