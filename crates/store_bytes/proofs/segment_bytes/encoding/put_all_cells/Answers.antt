use Rattle.std.proofs.Common.{◌+◌, ◌++◌, length, map, take, refl, ap, arith, length-append}
use Rattle.std.specs.List.{flat_map}
use Rattle.std.proofs.lemmas.List.{length-map}
use Rattle.calibration.specs.Grid.{GridValue}
use Rattle.segment.proofs.on_segment_rules.CellsFrom.{cells_in_order}
use Rattle.store_bytes.specs.segment_bytes.Grammar.{cell}
use Rattle.store_bytes.specs.segment_bytes.Rows.{cell_in}
use Rattle.store_bytes.specs.segment_bytes.Writing.{cells_after, row_bins}
use Rattle.store_bytes.proofs.on_segment_bytes.Lengths.{cells_long}
use Rattle.store_bytes.proofs.on_segment_bytes.Listed.{put_done, put_steps}
use Rattle.store_bytes.proofs.on_segment_bytes.Walked.{after_end, after_start, cells_row}
use Rattle.store_bytes.proofs.segment_bytes.encoding.put_all_cells.Goals as goal

pub loop-lo-init : goal.loop-lo-init
loop-lo-init c =
    let k = c.args.segment.now.grid.classes in
    let cells = c.args.segment.now.tally.cells in
    let start = after_start k cells (cells_in_order k cells c.grid-grid.ensures.parts.ordered.cells) in
    record {
      front = ap (λ l. take c.args.at c.args.buf.now ++ flat_map cell l) start;
      place = omega (arith, ap length start);
      long = refl;
      places = refl;
    }

pub put_cells_at-at-requires-clause-room : goal.put_cells_at-at-requires-clause-room
put_cells_at-at-requires-clause-room c =
    let v = c.loop-lo.invariant in
    let k = c.args.segment.now.grid.classes in
    let cells = c.args.segment.now.tally.cells in
    let lo = c.loop-lo.lo in
    let bins = row_bins c.args.segment.now lo in
    let rest = cells_after (lo + 1) 0 cells in
    let same = ap (λ (g : GridValue). g.classes) c.grid-grid.ensures.value in
    let split = cells_row k lo cells (cells_in_order k cells c.grid-grid.ensures.parts.ordered.cells)
    (omega (arith, c.loop-lo-test.true, c.classes-lo-end.ensures.value, same)) in
    omega (
      arith,
      v.place,
      v.long,
      c.requires.room,
      ap length split,
      length-append (map (cell_in lo) bins) rest,
      length-map bins (cell_in lo),
    )

pub loop-lo-preserved : goal.loop-lo-preserved
loop-lo-preserved c =
    let v = c.loop-lo.invariant in
    let k = c.args.segment.now.grid.classes in
    let cells = c.args.segment.now.tally.cells in
    let lo = c.loop-lo.lo in
    let bins = row_bins c.args.segment.now lo in
    let rest = cells_after (lo + 1) 0 cells in
    let same = ap (λ (g : GridValue). g.classes) c.grid-grid.ensures.value in
    let split = cells_row k lo cells (cells_in_order k cells c.grid-grid.ensures.parts.ordered.cells)
    (omega (arith, c.loop-lo-test.true, c.classes-lo-end.ensures.value, same)) in
    record {
      front = put_steps cell (take c.loop-lo.at c.loop-lo.buf) (take c.put_cells_at-at.result c.put_cells_at-at.new.buf)
          (map (cell_in lo) bins) rest
          (cells_after lo 0 cells) (take c.args.at c.args.buf.now ++ flat_map cell cells) c.put_cells_at-at.ensures.front split v.front;
      place = omega (
        arith,
        v.place,
        c.put_cells_at-at.ensures.next_is,
        ap length split,
        length-append (map (cell_in lo) bins) rest,
        cells_long (map (cell_in lo) bins),
      );
      long = omega (arith, c.put_cells_at-at.auto.buf, v.long);
      places = omega (arith, c.put_cells_at-at.auto.counts, v.places);
    }

pub returns : goal.returns
returns c =
    let v = c.loop-lo.invariant in
    let k = c.args.segment.now.grid.classes in
    let cells = c.args.segment.now.tally.cells in
    let same = ap (λ (g : GridValue). g.classes) c.grid-grid.ensures.value in
    let none = after_end 0 0 k c.loop-lo.lo cells (cells_in_order k cells c.grid-grid.ensures.parts.ordered.cells)
    (omega (arith, c.loop-lo-test.false, c.classes-lo-end.ensures.value, same)) in
    record {
      next_is = omega (arith, v.place, ap length none, cells_long cells);
      front = put_done cell (take c.loop-lo.at c.loop-lo.buf) (cells_after c.loop-lo.lo 0 cells)
          (take c.args.at c.args.buf.now ++ flat_map cell cells) none v.front;
    }
