use Rattle.std.proofs.Common.{sym, arith}
use Rattle.turning_points.proofs.Pieces.{last_of-index}
use Rattle.turning_points.proofs.in_place.last_level.Goals as goal

pub returns-else-len-eq0 : goal.returns-else-len-eq0
returns-else-len-eq0 c = sym (last_of-index c.args.before c.args.levels.now (omega arith))
