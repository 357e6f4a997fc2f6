use Rattle.std.proofs.Common.{◌≡◌, ◌+◌, ◌-◌, ◌^◌, ◌<◌, ◌≤◌, ◌++◌, [], length, take, drop, reverse, vec_len, vec_capacity}
use Rattle.std.specs.Prelude.{All}
use Rattle.turning_points.specs.three_point.Run.{run}
use Rattle.turning_points.specs.three_point.Ranges.{counted_ranges}
use Rattle.turning_points.proofs.three_point.listing.astm.Given as goal

-- what was counted, and the run over the points that are left, are the whole run
abbrev pub invariant-loop-point : goal.invariant-loop-point
invariant-loop-point l = record {
  answer : counted_ranges l.ranges.items.items ++ run (reverse (take l.len l.live)) (drop l.point-index l.points) ≡ run [] l.points;
  below : All (λ x. x < 2 ^ 16) (take l.len l.live);
  fewer : l.len ≤ l.point-index;
  places : length l.live ≡ length l.points;
  room : length l.points + l.len ≤ vec_capacity l.ranges.items - vec_len l.ranges.items + l.point-index;
}
