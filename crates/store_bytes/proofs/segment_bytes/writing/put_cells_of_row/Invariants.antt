use Rattle.std.proofs.Common.{◌≡◌, ◌+◌, ◌*◌, ◌++◌, length, drop, map, take}
use Rattle.std.specs.List.{flat_map}
use Rattle.store_bytes.specs.segment_bytes.Grammar.{cell}
use Rattle.store_bytes.specs.segment_bytes.Rows.{cell_in}
use Rattle.store_bytes.specs.segment_bytes.Writing.{bins_of}
use Rattle.store_bytes.proofs.segment_bytes.writing.put_cells_of_row.Given as goal

abbrev pub invariant-loop-n : goal.invariant-loop-n
invariant-loop-n l = record {
  front : take l.at l.buf ++ flat_map cell (map (cell_in l.lo) (bins_of l.hi (drop l.n-index l.counts)))
      ≡ take l.fn.at l.fn.buf ++ flat_map cell (map (cell_in l.lo) (bins_of (l.lo + 1) l.counts));
  place : l.at + 12 * length (bins_of l.hi (drop l.n-index l.counts)) ≡ l.fn.at + 12 * length (bins_of (l.lo + 1) l.counts);
  next : l.hi ≡ l.lo + 1 + l.n-index;
  long : length l.buf ≡ length l.fn.buf;
}
