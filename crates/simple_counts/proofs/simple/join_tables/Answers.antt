use Rattle.std.proofs.Common.{arith}
use Rattle.turning_points.specs.Ends.{end_points}
use Rattle.lemmas.proofs.Sums.{get_or-le-sum}
use Rattle.simple_counts.proofs.Stage.{stage}
use Rattle.simple_counts.proofs.simple.join_tables.Goals as goal

pub mark-requires-clause-room : goal.mark-requires-clause-room
mark-requires-clause-room c = λ k. omega (arith, get_or-le-sum c.args.extremes.now k)

pub decide-requires-2-clause-ends : goal.decide-requires-2-clause-ends
decide-requires-2-clause-ends c = (stage c.args.reference _ (end_points c.args.right.now) _ c.args.decided.now c.args.extremes.now _ _
    c.requires.right c.requires.left.below.3 c.requires.same c.requires.first c.requires.enough c.requires.few c.requires.room
    c.requires.space c.put_before-joined.ensures.ends c.decide.ensures c.mark.ensures).ends

pub decide-requires-2-clause-first : goal.decide-requires-2-clause-first
decide-requires-2-clause-first c = (stage c.args.reference _ (end_points c.args.right.now) _ c.args.decided.now c.args.extremes.now _ _
    c.requires.right c.requires.left.below.3 c.requires.same c.requires.first c.requires.enough c.requires.few c.requires.room
    c.requires.space c.put_before-joined.ensures.ends c.decide.ensures c.mark.ensures).first

pub decide-requires-2-clause-room : goal.decide-requires-2-clause-room
decide-requires-2-clause-room c = (stage c.args.reference _ (end_points c.args.right.now) _ c.args.decided.now c.args.extremes.now _ _
    c.requires.right c.requires.left.below.3 c.requires.same c.requires.first c.requires.enough c.requires.few c.requires.room
    c.requires.space c.put_before-joined.ensures.ends c.decide.ensures c.mark.ensures).room

pub mark-requires-2-clause-ends : goal.mark-requires-2-clause-ends
mark-requires-2-clause-ends c = (stage c.args.reference _ (end_points c.args.right.now) _ c.args.decided.now c.args.extremes.now _ _
    c.requires.right c.requires.left.below.3 c.requires.same c.requires.first c.requires.enough c.requires.few c.requires.room
    c.requires.space c.put_before-joined.ensures.ends c.decide.ensures c.mark.ensures).ends_again

pub mark-requires-2-clause-room : goal.mark-requires-2-clause-room
mark-requires-2-clause-room c = (stage c.args.reference _ (end_points c.args.right.now) _ c.args.decided.now c.args.extremes.now _ _
    c.requires.right c.requires.left.below.3 c.requires.same c.requires.first c.requires.enough c.requires.few c.requires.room
    c.requires.space c.put_before-joined.ensures.ends c.decide.ensures c.mark.ensures).space
