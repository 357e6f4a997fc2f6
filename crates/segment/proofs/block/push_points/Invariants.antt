use Rattle.std.proofs.Common.{◌≡◌, ◌+◌, ◌*◌, ◌≤◌, ◌++◌, length, take}
use Rattle.turning_points.specs.Points.{points}
use Rattle.tally.specs.Counts.{count_of, total_of}
use Rattle.four_point.specs.Residue.{AddsCycles, IsResidue}
use Rattle.segment.proofs.block.push_points.Given as goal

-- what is so after the points that were pushed
abbrev pub invariant-loop-level : goal.invariant-loop-level
invariant-loop-level l = record {
  step : AddsCycles (points (l.initial.reducer.residue ++ take l.level-index l.list)) (count_of l.initial.tally.cells) l.reducer.residue
      (count_of l.tally.cells);
  shape : IsResidue l.reducer.classes l.reducer.residue;
  lengths : 2 * total_of l.tally.cells + length l.reducer.residue ≡ 2 * total_of l.initial.tally.cells + length
      (points (l.initial.reducer.residue ++ take l.level-index l.list));
  room : total_of l.tally.cells + length l.reducer.residue ≤ l.level-index;
  cells : 2 * length l.tally.cells + length l.reducer.residue ≤ l.level-index;
  tally_room : l.tally.room ≡ l.initial.tally.room;
  classes : l.reducer.classes ≡ l.initial.reducer.classes;
  tally_classes : l.tally.classes ≡ l.initial.tally.classes;
}
