use Rattle.std.proofs.Common.{◌≡◌, ◌+◌, ◌*◌, ◌≤◌, ◌++◌, length, take}
use Rattle.turning_points.specs.Points.{points}
use Rattle.tally.specs.Counts.{count_of, total_of}
use Rattle.four_point.specs.Residue.{AddsCycles, IsResidue}
use Rattle.four_point.proofs.residue_join.join.join_residue.Given as goal

-- what is so after a join of the levels that were pushed
abbrev pub invariant-loop-level : goal.invariant-loop-level
invariant-loop-level l = record {
  step : AddsCycles (points (l.initial.left.residue ++ take l.level-index l.right)) (count_of l.initial.tally.cells) l.left.residue
      (count_of l.tally.cells);
  shape : IsResidue l.left.classes l.left.residue;
  lengths : 2 * total_of l.tally.cells + length l.left.residue ≡ 2 * total_of l.initial.tally.cells + length
      (points (l.initial.left.residue ++ take l.level-index l.right));
  room : total_of l.tally.cells + length l.left.residue ≤ total_of l.initial.tally.cells + length l.initial.left.residue + l.level-index;
  cells : 2 * length l.tally.cells + length l.left.residue ≤ 2 * length l.initial.tally.cells + length l.initial.left.residue
      + l.level-index;
  tally_room : l.tally.room ≡ l.initial.tally.room;
  classes : l.left.classes ≡ l.initial.left.classes;
  tally_classes : l.tally.classes ≡ l.initial.tally.classes;
}
