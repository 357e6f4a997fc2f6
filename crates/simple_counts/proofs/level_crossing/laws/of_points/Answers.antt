use Rattle.simple_counts.proofs.on_level_crossing.OfPoints.{crossings_points}
use Rattle.simple_counts.proofs.level_crossing.laws.of_points.Goals as goal

pub returns : goal.returns
returns c = crossings_points
