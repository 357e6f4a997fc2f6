use Rattle.std.proofs.Common.{◌≡◌, ℕ, ◌-◌, ◌≤◌, List, length, sym, ap, subst, ◌∙◌, arith, rules}
use Rattle.calibration.specs.declared.limits.TheConstants.{MAX_SAMPLES}
use Rattle.tally.specs.declared.cells.Cell.{Cell}
use Rattle.tally.specs.declared.cells.Bin.{Bin}
use Rattle.tally.specs.Counts.{Counts}
use Rattle.tally.specs.Room.{room_for}
use Rattle.tally.specs.tables.Bins.{count_at}
use Rattle.turning_points.specs.EndPoints.{EndPoints}
use Rattle.four_point.specs.Residue.{ReducerValue}
use Rattle.simple_counts.specs.level_crossing.Crossings.{CrossingsValue, crossing_count}
use Rattle.simple_counts.specs.level_crossing.Loading.{HasEnds}
use Rattle.simple_counts.specs.Loading.{CanLoad}
use Rattle.simple_counts.specs.Simple.{SimpleValue, IsSimple, peak_count, range_count, valley_count}
use Rattle.segment.specs.segment_rules.Parts.{PartsValue, parts_value}
use Rattle.segment.specs.segment_rules.Rules.{AreSegmentParts}
use Rattle.segment.specs.Segment.{SegmentValue, IsSegment}
use Rattle.segment.specs.Parts.{parts_of}
use Rattle.segment.proofs.on_segment_rules.CellsFrom.{cells_in_order}
use Rattle.segment.proofs.on_segment_rules.Sizes.{cells_count}
use Rattle.segment.proofs.Ready.{can_load, loaded_residue}
use Rattle.segment.proofs.Made.{made_of, made_kept, parts_are}
use Rattle.segment.proofs.segment.Segment.reload.Goals as goal

can_load_moved : (k k2 r r2 : ℕ) (e : EndPoints) (a a2 b b2 d d2 : List Bin) → k2 ≡ k → r2 ≡ r → a2 ≡ a → b2 ≡ b → d2 ≡ d
    → CanLoad k r e a b d → CanLoad k2 r2 e a2 b2 d2
can_load_moved k k2 r r2 e a a2 b b2 d d2 is is2 is3 is4 is5 can =
    subst (λ x. CanLoad x r2 e a2 b2 d2) (sym is) (subst (λ x. CanLoad k x e a2 b2 d2) (sym is2) (subst (λ x. CanLoad k r e x b2 d2) (sym is3)
    (subst (λ x. CanLoad k r e a x d2) (sym is4) (subst (λ x. CanLoad k r e a b x) (sym is5) can))))

-- in the place of a segment of no samples
module _ (v : SegmentValue) (i : IsSegment v) (p : PartsValue) (s : AreSegmentParts v.grid p) (long : p.name.to - p.name.from ≤ v.longest)
    (residue : List ℕ) (residue_is : residue ≡ p.residue) (cells : List Cell) (cells_are : cells ≡ p.cells)
    (crossings : List Bin) (crossings_are : crossings ≡ p.crossings) (peaks : List Bin) (peaks_are : peaks ≡ p.peaks)
    (valleys : List Bin) (valleys_are : valleys ≡ p.valleys) (ranges : List Bin) (ranges_are : ranges ≡ p.ranges)
    (t : Counts) (tally : t ≡ record { classes = v.tally.classes; room = room_for v.tally.classes v.longest; cells = cells })
    (r : ReducerValue) (reducer : r ≡ record { classes = v.reducer.classes; residue = residue })
    (x : CrossingsValue) (x_grid : (x.classes ≡ v.crossings.classes) × (x.reference ≡ v.crossings.reference)) (x_ends : HasEnds x p.ends)
    (crossed : (l : ℕ) → crossing_count x l ≡ count_at l crossings)
    (z : SimpleValue) (z_grid : (z.classes ≡ v.simple.classes) × (z.reference ≡ v.simple.reference)) (z_rules : IsSimple z)
    (z_ends : z.ends ≡ p.ends) (range_counts : (k : ℕ) → range_count z k ≡ count_at k ranges)
    (peak_counts : (l : ℕ) → peak_count z l ≡ count_at l peaks) (valley_counts : (l : ℕ) → valley_count z l ≡ count_at l valleys) where
  abbrev made : SegmentValue
  made = made_of v.grid p v.longest t r x z

  made_again : IsSegment made × (parts_of made ≡ p)
  made_again =
      let o = i.over in
      let longest : (1 ≤ v.longest) × (v.longest ≤ MAX_SAMPLES) × (p.name.to - p.name.from ≤ v.longest) = (i.longest.0, i.longest.1, long) in
      let t_is : t ≡ record { classes = v.grid.classes; room = room_for v.grid.classes v.longest; cells = p.cells } = tally
      ∙ ap (λ k. record { classes = k; room = room_for k v.longest; cells = cells }) o.tally
      ∙ ap (λ l. record { classes = v.grid.classes; room = room_for v.grid.classes v.longest; cells = l }) cells_are in
      let r_is : r ≡ record { classes = v.grid.classes; residue = p.residue } = reducer
      ∙ ap (λ k. record { classes = k; residue = residue }) o.reducer ∙ ap (λ l. record { classes = v.grid.classes; residue = l }) residue_is in
      let xs : (x.classes ≡ v.grid.classes) × (x.reference ≡ v.grid.reference) = (x_grid.0 ∙ o.crossings.0, x_grid.1 ∙ o.crossings.1) in
      let zs : (z.classes ≡ v.grid.classes) × (z.reference ≡ v.grid.reference) = (z_grid.0 ∙ o.simple.0, z_grid.1 ∙ o.simple.1) in
      let crossed_as : (l : ℕ) → crossing_count x l ≡ count_at l p.crossings = λ l. crossed l ∙ ap (count_at l) crossings_are in
      let ranges_as : (k : ℕ) → range_count z k ≡ count_at k p.ranges = λ k. range_counts k ∙ ap (count_at k) ranges_are in
      let peaks_as : (l : ℕ) → peak_count z l ≡ count_at l p.peaks = λ l. peak_counts l ∙ ap (count_at l) peaks_are in
      let valleys_as : (l : ℕ) → valley_count z l ≡ count_at l p.valleys = λ l. valley_counts l ∙ ap (count_at l) valleys_are in (
        made_kept v.grid p v.longest t r x z o.limits s longest t_is r_is xs crossed_as x_ends zs z_rules z_ends ranges_as peaks_as valleys_as,
        parts_are v.grid p v.longest t r x z o.limits s longest t_is r_is xs crossed_as x_ends zs z_rules z_ends ranges_as peaks_as valleys_as,
      )

pub fill_tally-requires-clause-room : goal.fill_tally-requires-clause-room
fill_tally-requires-clause-room c =
    let s : AreSegmentParts c.self.inside.grid (parts_value c.args.parts.now) = search rules in
    let k = c.self.inside.grid.classes in
    let cells = c.args.parts.now.cells in
    let n = cells_count 0 0 k cells (cells_in_order k cells s.ordered.cells) in
    let sum = s.summed in
    omega (
      arith,
      ap length c.as_slice-2.ensures,
      n,
      sum.cycles,
      sum.points,
      sum.readings,
      c.requires.longest sum.span.1,
      ap (λ (v : SegmentValue). v.longest) (c.self.view_is ∙ c.clear.ensures),
    )

pub load-requires-2 : goal.load-requires-2
load-requires-2 c =
    let s : AreSegmentParts c.self.inside.grid (parts_value c.args.parts.now) = search rules in
    let o = c.self.invariant.over in
    can_load_moved _ _ _ _ _ _ _ _ _ _ _ o.simple.0 o.simple.1 c.as_slice-4.ensures c.as_slice-5.ensures c.as_slice-6.ensures
    (can_load c.self.inside.grid (parts_value c.args.parts.now) o.limits s)

pub invariant_of-self-2 : goal.invariant_of-self-2
invariant_of-self-2 c =
    let s : AreSegmentParts c.self.inside.grid (parts_value c.args.parts.now) = search rules in
    let n = c.args.parts.now.name in
    let long : n.to - n.from ≤ c.self.inside.longest = omega (arith, c.requires.longest s.summed.span.1, ap (λ (v : SegmentValue). v.longest) (c.self.view_is ∙ c.clear.ensures)) in
    let residue = loaded_residue _ _ c.load-has_residue.result _ _ (search rules) c.load-has_residue.ensures.loaded in
    let x = c.load.ensures in
    let z = c.load-2.ensures in
    (made_again _ c.self.invariant (parts_value c.args.parts.now) s long _ c.as_slice.ensures _ c.as_slice-2.ensures _ c.as_slice-3.ensures _
    c.as_slice-4.ensures _ c.as_slice-5.ensures _ c.as_slice-6.ensures _ c.fill_tally.ensures _ residue _ x.grid x.ends x.counts
    _ z.grid z.rules z.ends z.ranges z.peaks z.valleys).0

pub returns-clause-parts : goal.returns-clause-parts
returns-clause-parts c =
    let s : AreSegmentParts c.self.inside.grid (parts_value c.args.parts.now) = search rules in
    let n = c.args.parts.now.name in
    let long : n.to - n.from ≤ c.self.inside.longest = omega (arith, c.requires.longest s.summed.span.1, ap (λ (v : SegmentValue). v.longest) (c.self.view_is ∙ c.clear.ensures)) in
    let residue = loaded_residue _ _ c.load-has_residue.result _ _ (search rules) c.load-has_residue.ensures.loaded in
    let x = c.load.ensures in
    let z = c.load-2.ensures in
    (made_again _ c.self.invariant (parts_value c.args.parts.now) s long _ c.as_slice.ensures _ c.as_slice-2.ensures _ c.as_slice-3.ensures _
    c.as_slice-4.ensures _ c.as_slice-5.ensures _ c.as_slice-6.ensures _ c.fill_tally.ensures _ residue _ x.grid x.ends x.counts
    _ z.grid z.rules z.ends z.ranges z.peaks z.valleys).1
