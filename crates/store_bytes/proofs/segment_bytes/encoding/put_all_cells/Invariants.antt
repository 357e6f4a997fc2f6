use Rattle.std.proofs.Common.{◌≡◌, ◌+◌, ◌*◌, ◌++◌, length, take}
use Rattle.std.specs.List.{flat_map}
use Rattle.store_bytes.specs.segment_bytes.Grammar.{cell}
use Rattle.store_bytes.specs.segment_bytes.Writing.{cells_after}
use Rattle.store_bytes.proofs.segment_bytes.encoding.put_all_cells.Given as goal

abbrev pub invariant-loop-lo : goal.invariant-loop-lo
invariant-loop-lo l = record {
  front : take l.at l.buf ++ flat_map cell (cells_after l.lo 0 l.segment.tally.cells) ≡ take l.fn.at l.fn.buf
      ++ flat_map cell l.segment.tally.cells;
  place : l.at + 12 * length (cells_after l.lo 0 l.segment.tally.cells) ≡ l.fn.at + 12 * length l.segment.tally.cells;
  long : length l.buf ≡ length l.fn.buf;
  places : length l.counts ≡ length l.fn.counts;
}
