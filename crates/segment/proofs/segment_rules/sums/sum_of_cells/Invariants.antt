use Rattle.std.proofs.Common.{◌≡◌, ◌+◌, ◌-◌, ◌*◌, ◌^◌, ◌≤◌, drop}
use Rattle.tally.specs.Counts.{total_of}
use Rattle.segment.proofs.segment_rules.sums.sum_of_cells.Given as goal

abbrev pub invariant-loop-cell : goal.invariant-loop-cell
invariant-loop-cell l = record {
  so_far : l.sum + total_of (drop l.cell-index l.cells) ≡ total_of l.cells;
  bound : l.sum ≤ l.cell-index * (2 ^ 64 - 1);
}
