use Rattle.std.proofs.Common.{◌<◌, slice_index}
use Rattle.tally.specs.Counts.{count_of}
use Rattle.recount.specs.Compared.{AreSameFrom}
use Rattle.recount.proofs.compare.first_other.Given as goal

-- the row was the same so far
abbrev pub invariant-loop-hi : goal.invariant-loop-hi
invariant-loop-hi l = record {
  same : AreSameFrom l.lo l.hi (slice_index l.row) (count_of l.found.cells l.lo);
  above : l.lo < l.hi;
}
