use Rattle.std.proofs.Common.{ℕ, List, ap, ◌∙◌, arith}
use Rattle.calibration.specs.History.{history}
use Rattle.turning_points.specs.three_point.Run.{half_units_of_pair}
use Rattle.four_point.specs.residue_join.HalfUnits.{neighbours}
use Rattle.segment.specs.Segment.{SegmentValue}
use Rattle.segment.proofs.HalfUnits.{halves_stand}
use Rattle.segment.proofs.segment.Segment.halves_above.Goals as goal

pub returns-clause-stands : goal.returns-clause-stands
returns-clause-stands c = λ gain w s hi a b.
    let v = c.args.self.now in
    let lo = c.args.lo in
    let residue = c.residue.ensures.residue ∙ ap (λ (s : SegmentValue). s.reducer.residue) c.self.view_is in
    omega (
      arith,
      c.add_above.ensures.pairs hi,
      c.put_cycles_above.ensures.each hi a b,
      ap (λ (l : List ℕ). half_units_of_pair lo hi (neighbours l)) residue,
      halves_stand v (history v.grid gain w) s.history lo hi,
    )
