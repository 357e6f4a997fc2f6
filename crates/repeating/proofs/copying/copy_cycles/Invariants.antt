use Rattle.std.proofs.Common.{◌≡◌, ◌*◌, ◌^◌, ◌≤◌, length}
use Rattle.tally.specs.Counts.{IsCounts, total_of}
use Rattle.repeating.proofs.CopiedRows.{IsCopied}
use Rattle.repeating.proofs.copying.copy_cycles.Given as goal

abbrev pub invariant-loop-lo : goal.invariant-loop-lo
invariant-loop-lo l = record {
  copied : IsCopied l.segment.tally.cells l.tally.cells l.lo;
  total : total_of l.tally.cells ≤ l.lo * 2 ^ 50;
  classes : l.tally.classes ≡ l.initial.tally.classes;
  room : l.tally.room ≡ l.initial.tally.room;
  counts : IsCounts l.tally;
  length : length l.row ≡ length l.initial.row;
}
