-- The ends of a segment's points, and those of its residue.
--   Alike    the same ends, with their neighbours on the same sides, and as many levels where there are at most three
--            points
use Rattle.std.specs.Prelude.{◌≤◌, ◌≡◌}
use Rattle.turning_points.specs.Points.{OnSide}
use Rattle.turning_points.specs.EndPoints.{EndPoints}

pub record Alike (e r : EndPoints) : Type 0 where
  pub short : e.points ≤ 3 → r.points ≡ e.points
  pub long : 2 ≤ e.points → 2 ≤ r.points
  pub first : r.first ≡ e.first
  pub last : r.last ≡ e.last
  pub second : 2 ≤ e.points → OnSide e.first e.second r.second
  pub before : 2 ≤ e.points → OnSide e.last e.before r.before
  pub three : e.points ≡ 3 → r.second ≡ e.second
