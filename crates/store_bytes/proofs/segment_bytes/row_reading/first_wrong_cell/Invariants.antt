use Rattle.std.proofs.Common.{◌≡◌, ◌+◌, drop, map}
use Rattle.segment.specs.segment_rules.Tests.{wrong_bin}
use Rattle.store_bytes.specs.segment_bytes.Rows.{bin_of}
use Rattle.store_bytes.proofs.segment_bytes.row_reading.first_wrong_cell.Given as goal

abbrev pub invariant-loop-cell : goal.invariant-loop-cell
invariant-loop-cell l = record {
  so_far : wrong_bin l.least l.classes l.place (map bin_of (drop l.cell-index l.cells)) ≡ wrong_bin l.from l.classes l.index
      (map bin_of l.cells);
  at : l.place ≡ l.index + l.cell-index;
}
