use Rattle.std.proofs.Common.{◌≡◌, ◌+◌, ◌-◌, ◌≤◌, drop}
use Rattle.turning_points.specs.three_point.Run.{half_units_of_pair}
use Rattle.four_point.specs.residue_join.HalfUnits.{neighbours}
use Rattle.segment.proofs.neighbours.neighbours.Given as goal

abbrev pub invariant-loop-i : goal.invariant-loop-i
invariant-loop-i l = record {
  units : l.count + half_units_of_pair l.lo l.hi (neighbours (drop (l.i - 1) l.residue)) ≡ half_units_of_pair l.lo l.hi
      (neighbours l.residue);
  few : l.count + 1 ≤ l.i;
}
