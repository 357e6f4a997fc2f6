use Rattle.std.proofs.Common.{◌+◌, ◌<◌, ◌≤◌, sym, subst}
use Rattle.std.specs.Prelude.{All}
use Rattle.calibration.specs.declared.limits.TheConstants.{MAX_SAMPLES}
use Rattle.tally.specs.Counts.{count_of}
use Rattle.four_point.specs.Reduction.{IsFourPointResult}
use Rattle.segment.proofs.OfPoints.{block_rules, closes_result}
use Rattle.segment.proofs.segment.Segment.take_block.Goals as goal

pub invariant_of-self : goal.invariant_of-self
invariant_of-self c =
    let z = c.take_points.ensures in
    let x = z.crossings in
    let p = c.push_points.ensures in
    let b = c.args.block.now in
    block_rules _ c.args.list.now b.used b.missing b.refused c.push_points.new.tally c.push_points.new.reducer c.take_points.new.crossings
    c.take_points.new.self c.self.invariant c.requires.own
    (subst (λ v. All (λ level. level < v.grid.classes) c.args.list.now) (sym c.self.view_is) c.requires.below) c.requires.within
    c.requires.none
    (subst (λ v. v.from + (b.used + b.missing + b.refused) ≤ MAX_SAMPLES) (sym c.self.view_is) c.requires.room)
    (subst (λ v. b.used + b.missing + b.refused ≤ v.longest) (sym c.self.view_is) c.requires.longest)
    p.step p.lengths p.shape p.classes p.tally_classes p.tally_room x.grid x.some x.first x.last x.counts z.grid z.ends z.rules

pub returns-clause-histories : goal.returns-clause-histories
returns-clause-histories c = λ h e n.
    let p = c.push_points.ensures in
    record {
      used = n;
      result = subst (λ l. IsFourPointResult l (count_of c.push_points.new.tally.cells) c.push_points.new.reducer.residue) (sym e)
          (closes_result _ _ _ _ p.step p.shape);
      crossings = c.take_points.ensures.crossing_histories h e;
      simple = c.take_points.ensures.histories h e;
    }
