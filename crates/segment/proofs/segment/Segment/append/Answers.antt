use Rattle.std.proofs.Common.{◌≡◌, ◌+◌, ◌*◌, ◌-◌, ◌≤◌, ◌⊎◌, ◌++◌, length, ap, sym, subst, ◌∙◌, arith, length-append}
use Rattle.turning_points.specs.Points.{points}
use Rattle.turning_points.specs.three_point.Run.{three_point}
use Rattle.tally.specs.Counts.{HasGreatestRoom, count_of, total_of}
use Rattle.four_point.specs.Reduction.{IsFourPointResult}
use Rattle.four_point.specs.Residue.{AddsCycles}
use Rattle.simple_counts.specs.level_crossing.Crossings.{crossing_count}
use Rattle.segment.specs.Segment.{StandsFor}
use Rattle.segment.proofs.Residues.{recounted}
use Rattle.segment.proofs.Room.{merge_room, join_room}
use Rattle.segment.proofs.Kept.{joined_halves, same_kept}
use Rattle.segment.proofs.Rules.{crossed_both, joined_rules}
use Rattle.segment.proofs.SameEnds.{some_used}
use Rattle.segment.proofs.segment.Segment.append.Goals as goal

pub merge-requires-clause-room : goal.merge-requires-clause-room
merge-requires-clause-room c =
    let long = subst (λ v. (v.to - v.from) + (c.right.inside.to - c.right.inside.from) ≤ v.longest) (sym c.self.view_is)
    (subst (λ w. (c.args.self.now.to - c.args.self.now.from) + (w.to - w.from) ≤ c.args.self.now.longest) (sym c.right.view_is)
    c.requires.longest) in
    merge_room _ _ c.self.invariant c.right.invariant c.classes-classes.ensures.counts c.classes-right.ensures.counts long

pub join_residue-requires-clause-room : goal.join_residue-requires-clause-room
join_residue-requires-clause-room c =
    let m = c.merge.ensures in
    let long = subst (λ v. (v.to - v.from) + (c.right.inside.to - c.right.inside.from) ≤ v.longest) (sym c.self.view_is)
    (subst (λ w. (c.args.self.now.to - c.args.self.now.from) + (w.to - w.from) ≤ c.args.self.now.longest) (sym c.right.view_is)
    c.requires.longest) in
    subst (λ r. HasGreatestRoom c.merge.new.self ⊎ (2 * length c.merge.new.self.cells + length c.self.inside.reducer.residue + length r ≤ 2
    * c.merge.new.self.room + 1))
    (sym c.residue.ensures.residue)
    (join_room _ _ c.self.invariant c.right.invariant c.classes-classes.ensures.counts c.classes-right.ensures.counts long c.merge.new.self
    m.counts m.classes m.room m.total)

pub join-requires-clause-few : goal.join-requires-clause-few
join-requires-clause-few c = λ l.
    let i = c.self.invariant in
    let j = c.right.invariant in
    let s = c.self.inside in
    let r = c.right.inside in
    let a = i.span in
    let b = j.span in
    omega (
      arith,
      i.readings,
      j.readings,
      crossed_both s.crossings.some r.crossings.some s.crossings.reference l s.crossings.last r.crossings.first
          (crossing_count s.crossings l)
          (crossing_count r.crossings l)
          s.used r.used (some_used s.crossings s.simple.ends s.used i.ends i.used)
          (some_used r.crossings r.simple.ends r.used j.ends j.used) (i.crossed l) (j.crossed l),
    )

pub invariant_of-self : goal.invariant_of-self
invariant_of-self c =
    let s = c.self.inside in
    let m = c.merge.ensures in
    let p = c.join_residue.ensures in
    let x = c.join.ensures in
    let z = c.join-2.ensures in
    let e = c.residue.ensures.residue in
    let long = subst (λ v. (v.to - v.from) + (c.right.inside.to - c.right.inside.from) ≤ v.longest) (sym c.self.view_is)
    (subst (λ w. (c.args.self.now.to - c.args.self.now.from) + (w.to - w.from) ≤ c.args.self.now.longest) (sym c.right.view_is)
    c.requires.longest) in
    joined_rules _ _ c.merge.new.self c.join_residue.new.tally c.join_residue.new.left c.join.new.self c.join-2.new.self c.self.invariant
    c.right.invariant
    (ap (λ v. v.grid) c.self.view_is ∙ c.requires.grid ∙ sym (ap (λ v. v.grid) c.right.view_is))
    (ap (λ v. v.to) c.self.view_is ∙ c.requires.next ∙ sym (ap (λ v. v.from) c.right.view_is))
    long m.total
    (subst (λ r. AddsCycles (points (s.reducer.residue ++ r)) (count_of c.merge.new.self.cells) c.join_residue.new.left.residue
    (count_of c.join_residue.new.tally.cells)) e p.step)
    (subst (λ r. 2 * total_of c.join_residue.new.tally.cells + length c.join_residue.new.left.residue ≡ 2 * total_of c.merge.new.self.cells
    + length (points (s.reducer.residue ++ r))) e p.lengths)
    p.shape p.classes (p.tally_classes ∙ m.classes) (p.tally_room ∙ m.room) x.grid x.some x.first x.last x.counts z.grid z.ends z.rules

pub returns-clause-histories : goal.returns-clause-histories
returns-clause-histories c = λ g h a b.
    let v = subst (λ k. StandsFor k g) (sym c.self.view_is) a in
    let w = subst (λ k. StandsFor k h) (sym c.right.view_is) b in
    let p = c.join_residue.ensures in
    let r = subst (λ k. IsFourPointResult (points h) (count_of c.right.inside.tally.cells) k) (sym c.residue.ensures.residue) w.result in
    record {
      used = omega (arith, v.used, w.used, length-append g h);
      result = recounted (p.result g h _ _ v.result r) (λ lo hi. omega (arith, c.merge.ensures.merged lo hi, p.step.counts lo hi));
      crossings = c.join.ensures.histories g h v.crossings w.crossings;
      simple = c.join-2.ensures.histories g h v.simple w.simple;
    }

pub returns-clause-kept : goal.returns-clause-kept
returns-clause-kept c =
    let p = c.join_residue.ensures in
    let s = c.self.inside in
    let r = c.right.inside in
    let step = subst (λ l. AddsCycles (points (s.reducer.residue ++ l)) (count_of c.merge.new.self.cells) c.join_residue.new.left.residue
    (count_of c.join_residue.new.tally.cells)) c.residue.ensures.residue p.step in
    let v = c.self.view_is in
    let w = c.right.view_is in
    same_kept _ _ _ (ap (λ k. k.to) w)
    (omega (arith, ap (λ k. k.used) v, ap (λ k. k.used) w))
    (omega (arith, ap (λ k. k.missing) v, ap (λ k. k.missing) w))
    (omega (arith, ap (λ k. k.refused) v, ap (λ k. k.refused) w))
    (λ q lo hi. omega (
      arith,
      joined_halves s.reducer.residue r.reducer.residue _ _ (count_of c.merge.new.self.cells) (count_of c.join_residue.new.tally.cells) step
          p.shape q lo hi,
      c.merge.ensures.merged lo hi,
      ap (λ k. count_of k.tally.cells lo hi) v,
      ap (λ k. count_of k.tally.cells lo hi) w,
      ap (λ k. three_point (k.reducer.residue ++ (r.reducer.residue ++ q)) lo hi) v,
      ap (λ k. three_point (c.args.self.now.reducer.residue ++ (k.reducer.residue ++ q)) lo hi) w,
    ))
