use Rattle.std.proofs.Common.{◌≡◌, ◌+◌, ◌++◌, length, take}
use Rattle.std.specs.List.{flat_map}
use Rattle.store_bytes.specs.segment_bytes.Grammar.{row}
use Rattle.store_bytes.specs.segment_bytes.Rows.{rows_of}
use Rattle.store_bytes.specs.segment_bytes.Writing.{cells_after}
use Rattle.store_bytes.proofs.segment_bytes.encoding.put_all_rows.Given as goal

abbrev pub invariant-loop-lo : goal.invariant-loop-lo
invariant-loop-lo l = record {
  front : take l.at l.buf ++ flat_map row (rows_of (cells_after l.lo 0 l.segment.tally.cells)) ≡ take l.fn.at l.fn.buf ++ flat_map row
      (rows_of l.segment.tally.cells);
  place : l.at + length (flat_map row (rows_of (cells_after l.lo 0 l.segment.tally.cells))) ≡ l.fn.at + length
      (flat_map row (rows_of l.segment.tally.cells));
  rows : l.rows + length (rows_of (cells_after l.lo 0 l.segment.tally.cells)) ≡ length (rows_of l.segment.tally.cells);
  long : length l.buf ≡ length l.fn.buf;
  places : length l.counts ≡ length l.fn.counts;
}
