use Rattle.std.proofs.Common.{◌≡◌, ◌+◌, ◌*◌, ◌<◌, ◌≤◌, ◌⊎◌, inl, inr, ℕ, length, refl, sym, ap, ◌∙◌, subst, arith, ◌++◌}
use Rattle.std.proofs.lemmas.List.{take_all}
use Rattle.turning_points.specs.Points.{points}
use Rattle.tally.specs.Counts.{Counts, HasGreatestRoom, most_cells, count_of}
use Rattle.four_point.specs.Residue.{AddsCycles}
use Rattle.four_point.proofs.Index.{residue_bound}
use Rattle.four_point.proofs.on_residue_join.Joined.{AddsCycles-nothing_pushed, length_none, AddsCycles-one_more, length_one_more, joined_results}
use Rattle.four_point.proofs.residue_join.join.join_residue.Goals as goal

pub loop-level-init : goal.loop-level-init
loop-level-init c =
    let own = c.residue-left.ensures.shape.own in
    record {
      step = AddsCycles-nothing_pushed _ _ own;
      shape = c.residue-left.ensures.shape;
      lengths = omega (arith, length_none _ own);
      room = omega arith;
      cells = omega arith;
      tally_room = refl;
      classes = refl;
      tally_classes = refl;
    }

room_by : (s t : Counts) (len n i m : ℕ) → s.classes ≡ t.classes → s.room ≡ t.room →
    2 * length s.cells + len ≤ 2 * length t.cells + n + i → i < m →
    HasGreatestRoom t ⊎ (2 * length t.cells + n + m ≤ 2 * t.room + 1) → HasGreatestRoom s ⊎ (2 * length s.cells + len ≤ 2 * s.room)
room_by s t len n i m e f k w (inl h) = inl (f ∙ h ∙ sym (ap most_cells e))
room_by s t len n i m e f k w (inr h) = inr (omega arith)

pub push-requires-clause-room : goal.push-requires-clause-room
push-requires-clause-room c =
    let v = c.loop-level.invariant in
    room_by c.loop-level.tally c.args.tally.now _ _ c.loop-level.level-index _ v.tally_classes v.tally_room v.cells c.loop-level-test.true
    c.requires.room

pub loop-level-preserved : goal.loop-level-preserved
loop-level-preserved c =
    let l = c.args.left.now.residue in
    let i = c.loop-level.level-index in
    let v = c.loop-level.invariant in
    record {
      step = AddsCycles-one_more l c.args.right.now i _ c.loop-level-test.true refl _ _ _ _ _ v.step c.push.ensures.step;
      shape = c.push.ensures.shape;
      lengths =
          omega (arith, v.lengths, c.push.ensures.lengths, length_one_more l c.args.right.now i _ c.loop-level-test.true refl _ _ _ v.step);
      room = omega (arith, v.room, c.push.ensures.room);
      cells = omega (arith, v.cells, c.push.ensures.cells);
      tally_room = c.push.ensures.tally_room ∙ v.tally_room;
      classes = c.push.ensures.classes ∙ v.classes;
      tally_classes = c.push.ensures.tally_classes ∙ v.tally_classes;
    }

pub returns-clause-result : goal.returns-clause-result
returns-clause-result c =
    let v = c.loop-level.invariant in
    let all = take_all c.loop-level.level-index c.args.right.now c.loop-level-test.false in
    let pushed = subst
    (λ k. AddsCycles (points (c.args.left.now.residue ++ k)) (count_of c.args.tally.now.cells) c.loop-level.left.residue
    (count_of c.loop-level.tally.cells)) all v.step in
    λ u w d e a b. joined_results u w d e _ _ _ _ _ a b pushed v.shape.irreducible

pub returns-clause-bound : goal.returns-clause-bound
returns-clause-bound c = residue_bound _ _ c.loop-level.invariant.shape
