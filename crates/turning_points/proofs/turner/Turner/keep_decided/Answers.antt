use Rattle.std.proofs.Common.{◌-◌, ◌<◌, length, arith}
use Rattle.std.proofs.lemmas.Bool.Decides.{nat_tests}
use Rattle.turning_points.proofs.TurnedSteps.{known}
use Rattle.turning_points.proofs.Pieces.{first_piece, piece_one, piece_two}
use Rattle.turning_points.proofs.turner.Turner.keep_decided.Goals as goal

pub returns-else-is_empty-clause-turned : goal.returns-else-is_empty-clause-turned
returns-else-is_empty-clause-turned c h given t =
    let some : 0 < length c.args.levels.now = grind (arith, nat_tests, c.is_empty.ensures, c.if-is_empty.false) in
    first_piece c.args.levels.now c.keep_behind.new.levels c.keep_behind.result (length c.args.levels.now - 1) _ some (omega arith)
    (omega arith) (omega (arith, c.keep_behind.ensures.within))
    c.keep_behind.ensures.turned h given (known c.self.view_is c.in-Nothing.is t)

pub returns-in-One-clause-turned : goal.returns-in-One-clause-turned
returns-in-One-clause-turned c h given t = c.keep_behind-in-One.ensures.turned h given (piece_one (known c.self.view_is c.in-One.is t))

pub returns-in-Two-clause-turned : goal.returns-in-Two-clause-turned
returns-in-Two-clause-turned c h given t = c.keep_behind-in-Two.ensures.turned h given (piece_two (known c.self.view_is c.in-Two.is t))
