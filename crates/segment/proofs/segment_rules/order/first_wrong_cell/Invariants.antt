use Rattle.std.proofs.Common.{◌≡◌, ◌+◌, ◌*◌, ◌≤◌, ◌<◌, drop}
use Rattle.segment.specs.segment_rules.Tests.{wrong_cell}
use Rattle.segment.proofs.segment_rules.order.first_wrong_cell.Given as goal

abbrev pub invariant-loop-cell : goal.invariant-loop-cell
invariant-loop-cell l = record {
  so_far : wrong_cell l.lo l.hi l.classes l.index (drop l.cell-index l.cells) ≡ wrong_cell 0 0 l.classes 0 l.cells;
  place : l.index ≡ l.cell-index;
  ascends : l.index ≤ l.lo * 65536 + l.hi;
  lo : l.lo < 65535;
  hi : l.hi < 65536;
}
