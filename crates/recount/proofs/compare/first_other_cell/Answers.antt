use Rattle.std.proofs.Common.{◌≡◌, ◌∙◌, length, ap, slice_index, arith}
use Rattle.tally.specs.Counts.{count_of}
use Rattle.segment.specs.Figures.{halves_of}
use Rattle.recount.proofs.Rows.{row_more}
use Rattle.recount.proofs.compare.first_other_cell.Goals as goal

pub loop-lo-preserved : goal.loop-lo-preserved
loop-lo-preserved c =
    let classes : c.classes-classes.result ≡ c.args.segment.now.grid.classes = c.classes-classes.ensures.value ∙ ap
    (λ x. x.classes) c.grid.ensures.value in
    let places : length c.halves_above.new.out ≡ c.classes-classes.result = c.halves_above.ensures.length ∙ c.loop-lo.invariant.places in
    record {
      same = row_more c.classes-classes.result c.loop-lo.lo (halves_of c.args.segment.now) (count_of c.args.found.now.cells)
          (slice_index c.halves_above.new.out) c.loop-lo.invariant.same
          (λ hi above inside. c.halves_above.ensures.each hi above (omega (arith, inside, classes)))
          (λ hi above inside. c.in_default.ensures hi above (omega (arith, inside, places)));
      places = places;
    }
