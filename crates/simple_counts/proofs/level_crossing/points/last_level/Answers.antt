use Rattle.std.proofs.Common.{arith}
use Rattle.turning_points.proofs.EndPlaces.{last_place}
use Rattle.simple_counts.proofs.level_crossing.points.last_level.Goals as goal

pub returns-else-count-eq0 : goal.returns-else-count-eq0
returns-else-count-eq0 c = last_place c.args.list.now _ (omega arith)
