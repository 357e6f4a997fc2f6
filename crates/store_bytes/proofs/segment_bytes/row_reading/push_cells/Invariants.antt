use Rattle.std.proofs.Common.{◌≡◌, ◌≤◌, ◌+◌, ◌-◌, ◌++◌, length, map}
use Rattle.store_bytes.specs.segment_bytes.Fields.{entry_list}
use Rattle.store_bytes.specs.segment_bytes.Grammar.{bin_at}
use Rattle.store_bytes.specs.segment_bytes.Rows.{cell_in}
use Rattle.store_bytes.proofs.on_segment_bytes.Loops.{seen}
use Rattle.store_bytes.proofs.segment_bytes.row_reading.push_cells.Given as goal

abbrev pub invariant-loop : goal.invariant-loop
invariant-loop l = record {
  so_far : seen (λ bins. l.cells.items ++ map (cell_in l.lo) bins) (entry_list bin_at (l.count - l.counter) l.have l.rest) ≡ seen
      (λ bins. l.fn.cells.items ++ map (cell_in l.lo) bins) (entry_list bin_at l.count l.have l.bytes);
  within : length l.rest ≤ length l.bytes;
  few : length l.cells.items ≤ length l.fn.cells.items + l.counter;
}
