use Rattle.std.proofs.Common.{◌≡◌, ℕ, ◌+◌, ◌*◌, ◌<◌, ◌≤◌, length, drop, slice_index}
use Rattle.std.specs.Prelude.{All}
use Rattle.turning_points.specs.three_point.Run.{half_units_at_range}
use Rattle.turning_points.specs.three_point.Ranges.{counted_ranges}
use Rattle.turning_points.specs.three_point.Bounds.{IsWithin}
use Rattle.turning_points.proofs.three_point.ranges.Ranges.half_units.Given as goal

-- what was added, and what the ranges that are left add, is the whole
abbrev pub invariant-loop-range : goal.invariant-loop-range
invariant-loop-range l = record {
  left : All (IsWithin (length l.out)) (counted_ranges (drop l.range-index l.range-items));
  added : (k : ℕ) → k < length l.out → slice_index l.out k + half_units_at_range k (counted_ranges (drop l.range-index l.range-items)) ≡
      half_units_at_range k (counted_ranges l.self);
  few : (k : ℕ) → slice_index l.out k ≤ 2 * l.range-index;
}
