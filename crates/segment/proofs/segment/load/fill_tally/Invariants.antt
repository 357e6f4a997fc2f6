use Rattle.std.proofs.Common.{◌≡◌, ℕ, ◌+◌, ◌≤◌, length, drop}
use Rattle.tally.specs.Counts.{IsCounts, count_of, total_of}
use Rattle.tally.specs.Room.{room_for}
use Rattle.segment.proofs.segment.load.fill_tally.Given as goal

abbrev pub invariant-loop-cell : goal.invariant-loop-cell
invariant-loop-cell l = record {
  classes : l.tally.classes ≡ l.fn.tally.classes;
  room : l.tally.room ≡ room_for l.fn.tally.classes l.longest;
  counts : IsCounts l.tally;
  few : length l.tally.cells ≤ l.cell-index;
  so_far : (a b : ℕ) → count_of l.tally.cells a b + count_of (drop l.cell-index l.cells) a b ≡ count_of l.cells a b;
  total : total_of l.tally.cells + total_of (drop l.cell-index l.cells) ≡ total_of l.cells;
}
