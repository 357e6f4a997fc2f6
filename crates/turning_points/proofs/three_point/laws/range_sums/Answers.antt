use Rattle.turning_points.proofs.on_three_point.Sums.{has_range_sums}
use Rattle.turning_points.proofs.three_point.laws.range_sums.Goals as goal

pub returns : goal.returns
returns c = has_range_sums
