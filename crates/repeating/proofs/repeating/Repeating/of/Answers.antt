use Rattle.std.proofs.Common.{◌≡◌, ◌*◌, ◌≤◌, ◌++◌, length, sym, ap, ◌∙◌, subst, arith}
use Rattle.std.proofs.lemmas.List.{with_items_is}
use Rattle.calibration.specs.History.{history}
use Rattle.turning_points.specs.Points.{points}
use Rattle.tally.specs.Counts.{count_of, total_of, most_cells}
use Rattle.four_point.specs.Residue.{AddsCycles}
use Rattle.repeating.specs.Value.{IsRepeating}
use Rattle.repeating.proofs.FromResult.{cycles_of}
use Rattle.repeating.proofs.OfResidue.{IsClosed, closed, few_cycles}
use Rattle.repeating.proofs.repeating.Repeating.of.Goals as goal

module _ (c : goal.After-classes-counts) where
  same_grid : c.args.seg.now.grid ≡ c.self.inside.grid
  same_grid = c.requires ∙ sym (ap (λ v. v.grid) c.self.view_is)

  is_closed : IsClosed c.args.seg.now c.load-is_residue.new.self c.join_residue.new.left c.join_residue.new.tally
  is_closed =
      closed c.args.seg.now c.self.inside.reducer c.load-is_residue.new.self c.join_residue.new.left c.load-is_residue.result
      c.residue-residue.result.now c.copy_cycles.new.tally c.join_residue.new.tally c.residue-residue.ensures.rules
      c.residue-residue.ensures.residue (c.self.invariant.1 ∙ sym (ap (λ g. g.classes) same_grid)) c.load-is_residue.ensures.accepted
      c.load-is_residue.ensures.loaded c.copy_cycles.ensures.cells c.join_residue.ensures.step c.join_residue.ensures.shape

  few : 2 * total_of c.join_residue.new.tally.cells ≤ c.args.seg.now.used
  few =
      let v = c.args.seg.now in
      let s = c.residue-residue.ensures.rules in
      let r = c.residue-residue.ensures.residue in
      let p = ap (λ l. length (points (l ++ c.residue-residue.result.now))) is_closed.residue
      ∙ ap (λ l. length (points (v.reducer.residue ++ l))) r in
      let n = ap total_of c.copy_cycles.ensures.cells in
      let h = few_cycles v.reducer.residue c.join_residue.new.left.residue (total_of v.tally.cells)
      (total_of c.join_residue.new.tally.cells)
      v.simple.ends.points is_closed.again (omega (arith, c.join_residue.ensures.lengths, p, n)) s.balance in
      omega (arith, h, s.used)

  keeps : IsRepeating (record { grid = c.self.inside.grid; tally = c.join_residue.new.tally })
  keeps =
      let j = c.join_residue.ensures in
      let k = c.copy_cycles.ensures in
      let i = c.self.invariant.0 in
      let s = c.residue-residue.ensures.rules in
      let classes = j.tally_classes ∙ k.classes ∙ ap (λ t. t.classes) c.clear.ensures.empty in
      let room = j.tally_room ∙ k.room ∙ ap (λ t. t.room) c.clear.ensures.empty in
      record {
        limits = i.limits;
        counts = c.classes-counts.ensures.counts;
        classes = classes ∙ i.classes;
        room = room ∙ i.room ∙ sym (ap most_cells classes);
        few = omega (arith, few, s.readings, s.span.0, s.span.1);
      }

pub returns-clause-cycles : goal.returns-clause-cycles
returns-clause-cycles c =
    let v = c.args.seg.now in
    subst (λ l. AddsCycles (points (v.reducer.residue ++ v.reducer.residue)) (count_of v.tally.cells) l
    (count_of c.join_residue.new.tally.cells))
    (is_closed c).again (is_closed c).adds

pub returns-clause-stands : goal.returns-clause-stands
returns-clause-stands c = λ gain w s.
    let v = c.args.seg.now in
    cycles_of (history v.grid gain w) (count_of v.tally.cells) (count_of c.join_residue.new.tally.cells) v.reducer.residue
    c.join_residue.new.left.residue s.history.result (is_closed c).adds c.join_residue.ensures.shape.irreducible

pub returns-clause-few : goal.returns-clause-few
returns-clause-few c = few c

pub returns-clause-rules : goal.returns-clause-rules
returns-clause-rules c = keeps c

pub invariant_of-self : goal.invariant_of-self
invariant_of-self c =
    let same = c.copy_cycles.ensures.length in
    let row = with_items_is c.self.inside.row c.copy_cycles.new.row (same ∙ c.deref_mut.ensures.len) in (
      keeps c,
      c.join_residue.ensures.classes ∙ (is_closed c).classes ∙ ap (λ g. g.classes) (same_grid c),
      ap length row ∙ same ∙ ap length c.deref_mut.ensures.value ∙ c.self.invariant.2,
    )
