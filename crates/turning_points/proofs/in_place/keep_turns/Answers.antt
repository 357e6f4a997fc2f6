use Rattle.std.proofs.Common.{sym, ap, ◌∙◌, arith}
use Rattle.turning_points.proofs.Directions.{turns_by, turns_by_changes}
use Rattle.turning_points.proofs.in_place.keep_turns.Goals as goal

pub loop-i-init : goal.loop-i-init
loop-i-init c = record {
  behind = omega arith;
  answer = ap (λ r. turns_by r c.args.last c.args.levels.now) c.rises_to-rises.ensures
      ∙ sym (turns_by_changes c.args.before c.args.last c.args.levels.now c.requires.changes);
}
