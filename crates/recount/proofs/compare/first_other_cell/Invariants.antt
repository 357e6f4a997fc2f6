use Rattle.std.proofs.Common.{◌≡◌, length}
use Rattle.tally.specs.Counts.{count_of}
use Rattle.segment.specs.Figures.{halves_of}
use Rattle.recount.proofs.Rows.{AreSameBelow}
use Rattle.recount.proofs.compare.first_other_cell.Given as goal

-- the rows before this one were the same
abbrev pub invariant-loop-lo : goal.invariant-loop-lo
invariant-loop-lo l = record {
  same : AreSameBelow l.lo l.classes (halves_of l.segment) (count_of l.found.cells);
  places : length l.held ≡ l.classes;
}
