use Rattle.std.proofs.Common.{◌≡◌, ◌<◌, ℕ, List, ap, subst, sym, ◌∙◌, arith}
use Rattle.std.specs.Prelude.{All}
use Rattle.turning_points.specs.Points.{points}
use Rattle.turning_points.proofs.Over.{zig_own}
use Rattle.turning_points.specs.three_point.Run.{half_units_at_range}
use Rattle.four_point.specs.residue_join.HalfUnits.{neighbours}
use Rattle.segment.specs.Segment.{SegmentValue}
use Rattle.segment.proofs.SideBySide.{no_range_of_none}
use Rattle.segment.proofs.HalfUnits.{range_parts, range_stands}
use Rattle.segment.proofs.segment.Segment.half_units.Goals as goal

pub returns-clause-none : goal.returns-clause-none
returns-clause-none c =
    let r = c.residue.result.now in
    let own = subst (λ (l : List ℕ). points l ≡ l) (sym c.residue.ensures.residue) c.residue.ensures.shape.own in
    omega (arith, c.add_ranges.ensures.ranges 0, c.put_cycles.ensures.none, no_range_of_none r (zig_own r own))

-- what was put for the cycles, and added for the neighbours
pub returns-clause-each : goal.returns-clause-each
returns-clause-each c = λ k a b.
    let v = c.args.self.now in
    let residue = c.residue.ensures.residue ∙ ap (λ (s : SegmentValue). s.reducer.residue) c.self.view_is in
    let below = subst (λ (s : SegmentValue). All (λ level. level < s.grid.classes) s.reducer.residue) c.self.view_is
    c.self.invariant.residue.within in
    omega (
      arith,
      c.add_ranges.ensures.ranges k,
      c.put_cycles.ensures.each k a b,
      range_parts v k below b,
      ap (λ (l : List ℕ). half_units_at_range k (neighbours l)) residue,
    )

pub returns-clause-stands : goal.returns-clause-stands
returns-clause-stands c = λ gain w s k a b.
    let v = c.args.self.now in
    let residue = c.residue.ensures.residue ∙ ap (λ (s : SegmentValue). s.reducer.residue) c.self.view_is in
    let below = subst (λ (s : SegmentValue). All (λ level. level < s.grid.classes) s.reducer.residue) c.self.view_is
    c.self.invariant.residue.within in
    omega (
      arith,
      c.add_ranges.ensures.ranges k,
      c.put_cycles.ensures.each k a b,
      range_parts v k below b,
      ap (λ (l : List ℕ). half_units_at_range k (neighbours l)) residue,
      range_stands v gain w k s.history b,
    )
