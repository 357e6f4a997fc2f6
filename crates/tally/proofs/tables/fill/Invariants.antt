use Rattle.std.proofs.Common.{◌≡◌, drop, length}
use Rattle.tally.specs.tables.Tables.{table_with_bins}
use Rattle.tally.proofs.tables.fill.Given as goal

abbrev pub invariant-loop-bin : goal.invariant-loop-bin
invariant-loop-bin l = record {
  so_far : table_with_bins l.by l.table.items (drop l.bin-index l.bins) ≡ table_with_bins l.by l.fn.table.items l.bins;
  long : length l.table.items ≡ length l.fn.table.items;
}
