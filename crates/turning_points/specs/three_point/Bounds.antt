-- What the ranges of levels below a bound keep to.
use Rattle.std.specs.Prelude.{ℕ, ◌≤◌, ◌<◌}
use Rattle.turning_points.specs.three_point.Run.{CountedRange}

-- The range lies between two levels below n, and is a cycle or a half cycle.
pub record IsWithin (n : ℕ) (r : CountedRange) : Type 0 where
  pub ordered : r.pair.lo ≤ r.pair.hi
  pub below : r.pair.hi < n
  pub some : 1 ≤ r.halves
  pub few : r.halves ≤ 2
