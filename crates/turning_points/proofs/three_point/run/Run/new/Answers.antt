use Rattle.std.proofs.Common.{arith}
use Rattle.turning_points.proofs.on_three_point.Falling.{is_live_none}
use Rattle.turning_points.proofs.three_point.run.Run.new.Goals as goal

pub invariant_of-result : goal.invariant_of-result
invariant_of-result c =
    record { room = omega (arith, c.in_ok-vec.ensures.len); within = omega arith; is_live = is_live_none c.args.classes }
