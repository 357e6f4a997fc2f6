use Rattle.std.proofs.Common.{◌≡◌, ◌+◌, ◌*◌, ◌<◌, ◌≤◌, ◌⊎◌, inl, inr, ℕ, List, [], ◌++◌, length, take, refl, sym, ap, ◌∙◌, arith, length-take-le}
use Rattle.turning_points.specs.Points.{points}
use Rattle.turning_points.proofs.Over.{own, zig_own}
use Rattle.tally.specs.Counts.{Counts, HasGreatestRoom, most_cells, total_of}
use Rattle.simple_counts.proofs.OfPoints.{zig_take}
use Rattle.four_point.proofs.on_residue_join.Joined.{AddsCycles-one_more, length_one_more}
use Rattle.segment.proofs.block.push_points.Goals as goal

room_by : (s t : Counts) (len i m : ℕ) → s.classes ≡ t.classes → s.room ≡ t.room → 2 * length s.cells + len ≤ i → i < m
    → HasGreatestRoom t ⊎ (m ≤ 2 * t.room + 1) → HasGreatestRoom s ⊎ (2 * length s.cells + len ≤ 2 * s.room)
room_by s t len i m e f k w (inl h) = inl (f ∙ h ∙ sym (ap most_cells e))
room_by s t len i m e f k w (inr h) = inr (omega arith)

-- a list of points has as many points as levels, as far as it is pushed
length-pushed : (l s : List ℕ) (i : ℕ) → l ≡ [] → points s ≡ s → i ≤ length s → length (points (l ++ take i s)) ≡ i
length-pushed l s i e o h = ap (λ m. length (points (m ++ take i s))) e ∙ ap length (own (zig_take i (zig_own s o))) ∙ length-take-le i s h

pub push_point-requires-clause-room : goal.push_point-requires-clause-room
push_point-requires-clause-room c =
    let v = c.loop-level.invariant in
    room_by c.loop-level.tally c.args.tally.now _ c.loop-level.level-index _ v.tally_classes v.tally_room v.cells c.loop-level-test.true
    c.requires.room

pub push_point-requires-clause-more : goal.push_point-requires-clause-more
push_point-requires-clause-more c =
    let l = c.args.reducer.now.residue in
    let s = c.args.list.now in
    let i = c.loop-level.level-index in
    let w = c.loop-level-test.true in
    omega (
      arith,
      length_one_more l s i _ w refl _ _ _ c.loop-level.invariant.step,
      length-pushed l s i c.requires.residue c.requires.own (omega (arith, w)),
      length-pushed l s (i + 1) c.requires.residue c.requires.own (omega (arith, w)),
    )

pub loop-level-preserved : goal.loop-level-preserved
loop-level-preserved c =
    let l = c.args.reducer.now.residue in
    let s = c.args.list.now in
    let i = c.loop-level.level-index in
    let v = c.loop-level.invariant in
    let w = c.loop-level-test.true in
    let e = c.push_point.ensures in
    let before = length-pushed l s i c.requires.residue c.requires.own (omega (arith, w)) in
    let after = length-pushed l s (i + 1) c.requires.residue c.requires.own (omega (arith, w)) in
    record {
      step = AddsCycles-one_more l s i _ w refl _ _ _ _ _ v.step e.step;
      shape = e.shape;
      lengths = omega (arith, v.lengths, e.lengths, before, after);
      room = omega (arith, v.lengths, e.lengths, before, ap total_of c.requires.cells);
      cells = omega (arith, v.cells, e.cells);
      tally_room = e.tally_room ∙ v.tally_room;
      classes = e.classes ∙ v.classes;
      tally_classes = e.tally_classes ∙ v.tally_classes;
    }
