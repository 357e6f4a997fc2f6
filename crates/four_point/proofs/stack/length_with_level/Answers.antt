use Rattle.std.proofs.Common.{◌∷◌, ◌++◌, [], ◌∙◌, sym, ap, take, arith}
use Rattle.std.proofs.lemmas.Bool.{both_ways}
use Rattle.std.proofs.lemmas.List.{take_more_set}
use Rattle.turning_points.proofs.Extended.{at_first, at_between, at_turn}
use Rattle.four_point.proofs.Index.{last_differ}
use Rattle.four_point.proofs.Stacked.{take_with_last}
use Rattle.four_point.proofs.stack.length_with_level.Goals as goal
use Rattle.four_point.proofs.stack.length_with_level.Goals.{else-len-ge2-via-then-len-ge2+else-lies_between, else-len-ge2-via-else-len-ge2}

pub returns-then-len-eq0-clause-points : goal.returns-then-len-eq0-clause-points
returns-then-len-eq0-clause-points c =
    sym (take_with_last c.args.levels.now 1 c.args.level (omega arith) (omega arith))
    ∙ at_first c.args.levels.now c.args.len c.args.level c.if-len-eq0.true c.requires.within

pub returns-then-lies_between-clause-points : goal.returns-then-lies_between-clause-points
returns-then-lies_between-clause-points c =
    sym (take_with_last c.args.levels.now c.args.len c.args.level (omega arith) (omega arith))
    ∙ at_between c.args.levels.now c.args.len c.args.level (omega arith) (omega arith) c.requires.points
    (c.lies_between.ensures.0 c.if-lies_between.true)

pub lies_between-requires-clause-direction : goal.lies_between-requires-clause-direction
lies_between-requires-clause-direction c = last_differ c.args.levels.now c.args.len (omega arith) (omega arith) c.requires.points

pub returns-clause-points : goal.returns-clause-points
returns-clause-points c =
    ap (λ n. take n c.args.levels.now ++ c.args.level ∷ []) (omega arith)
    ∙ sym (take_more_set c.args.levels.now c.args.len c.args.level c.requires.within)
    ∙ at_turn c.args.levels.now c.args.len c.args.level (omega arith) c.requires.within c.requires.points (c.requires.change (omega arith))
    (elim c.else-len-ge2.branch [
      | else-len-ge2-via-then-len-ge2+else-lies_between w ↦ λ h b. both_ways _ w.if-lies_between.false
          (w.lies_between.ensures.1 b)
      | else-len-ge2-via-else-len-ge2 w ↦ λ h b. omega arith
    ])
