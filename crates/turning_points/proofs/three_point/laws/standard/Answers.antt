use Rattle.turning_points.proofs.on_three_point.Standard.{has_steps}
use Rattle.turning_points.proofs.three_point.laws.standard.Goals as goal

pub returns : goal.returns
returns c = has_steps
