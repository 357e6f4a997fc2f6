use Rattle.std.proofs.Common.{◌≡◌, ◌+◌, ◌*◌, ◌^◌, ◌≤◌}
use Rattle.tally.specs.Counts.{IsCounts, total_of}
use Rattle.repeating.proofs.CopiedRows.{IsInRow}
use Rattle.repeating.proofs.copying.add_row.Given as goal

abbrev pub invariant-loop-n : goal.invariant-loop-n
invariant-loop-n l = record {
  hi : l.hi ≡ l.lo + l.n-index;
  added : IsInRow l.segment.tally.cells l.initial.tally.cells l.tally.cells l.lo l.hi;
  total : total_of l.tally.cells ≤ total_of l.initial.tally.cells + l.n-index * 2 ^ 40;
  classes : l.tally.classes ≡ l.initial.tally.classes;
  room : l.tally.room ≡ l.initial.tally.room;
  counts : IsCounts l.tally;
}
