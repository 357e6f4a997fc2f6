use Rattle.std.proofs.Common.{ℕ, List, length, slice_index, sym, ◌∙◌, ap, arith}
use Rattle.lemmas.proofs.Sums.{get_or-le-sum}
use Rattle.calibration.specs.Grid.{GridValue}
use Rattle.calibration.specs.History.{history}
use Rattle.turning_points.specs.three_point.Run.{half_units}
use Rattle.segment.specs.declared.counts.SampleCounts.{SampleCounts}
use Rattle.report.specs.Page.{PageValue}
use Rattle.report.specs.Texts.{table_text}
use Rattle.report.proofs.SameCounts.{table_text-same}
use Rattle.monitor.specs.Figures.{MOST_HALF_UNITS}
use Rattle.monitor.specs.Printed.{table_grid, table_gain}
use Rattle.monitor.proofs.counting.table_page.Goals as goal

pub finish-half_units-requires : goal.finish-half_units-requires
finish-half_units-requires c = record {
  few = c.requires.few;
  counted = (MOST_HALF_UNITS, (table_grid, (table_gain, c.requires.figures)));
}

pub table_text-requires-clause-places : goal.table_text-requires-clause-places
table_text-requires-clause-places c =
    ap (λ (l : List ℕ). length l) c.as_slice.ensures ∙ c.finish-half_units.ensures.classes ∙ c.requires.figures.1.takes
    ∙ sym (ap (λ (g : GridValue). g.classes) c.grid_of_table.ensures)

pub table_text-requires-clause-halves : goal.table_text-requires-clause-halves
table_text-requires-clause-halves c = λ k.
    let are = c.requires.figures in
    omega (
      arith,
      ap (λ (l : List ℕ). slice_index l k) c.as_slice.ensures,
      get_or-le-sum c.finish-half_units.result k,
      c.finish-half_units.ensures.room MOST_HALF_UNITS table_grid table_gain are.0 are.1,
      c.args.figures.all,
      c.requires.few,
    )

pub returns : goal.returns
returns c = λ w are.
    let figures = c.args.figures in
    let h = history table_grid table_gain w in
    let whole = c.finish-half_units.ensures.holds MOST_HALF_UNITS table_grid table_gain w are in
    let places = c.finish-half_units.ensures.classes ∙ are.takes in
    let out = c.as_slice.result.now in
    let same = table_text-same table_grid figures.counts (λ k. slice_index out k) (half_units h)
    (λ k some inside. ap (λ (l : List ℕ). slice_index l k) c.as_slice.ensures ∙ whole k (omega (arith, inside, places))) in
    ap (λ (p : PageValue). p.bytes) c.table_text.ensures
    ∙ ap (λ (g : GridValue). table_text g figures.counts (λ k. slice_index out k)) c.grid_of_table.ensures
    ∙ same ∙ ap (λ (k : SampleCounts). table_text table_grid k (half_units h)) are.counts
