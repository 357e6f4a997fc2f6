use Rattle.std.proofs.Common.{◌≡◌, ◌+◌, ◌-◌, ◌≤◌, ℕ, length, drop, get_or}
use Rattle.turning_points.specs.three_point.Run.{half_units_of_pair}
use Rattle.four_point.specs.residue_join.HalfUnits.{neighbours}
use Rattle.segment.proofs.neighbours.add_above.Given as goal

abbrev pub invariant-loop-i : goal.invariant-loop-i
invariant-loop-i l = record {
  pairs : (hi : ℕ) → get_or l.out hi 0 + half_units_of_pair l.lo hi (neighbours (drop (l.i - 1) l.residue)) ≡ get_or l.initial.out hi 0 +
      half_units_of_pair l.lo hi (neighbours l.residue);
  few : (k : ℕ) → get_or l.out k 0 + 1 ≤ get_or l.initial.out k 0 + l.i;
  length : length l.out ≡ length l.initial.out;
}
