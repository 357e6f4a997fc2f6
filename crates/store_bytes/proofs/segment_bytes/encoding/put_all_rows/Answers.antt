use Rattle.std.proofs.Common.{◌+◌, ◌++◌, length, take, refl, ap, arith, length-append}
use Rattle.std.specs.List.{flat_map}
use Rattle.std.proofs.lemmas.Grind.{flat_map-append}
use Rattle.calibration.specs.Grid.{GridValue}
use Rattle.segment.proofs.on_segment_rules.CellsFrom.{cells_in_order}
use Rattle.segment.specs.Parts.{parts_of}
use Rattle.store_bytes.specs.segment_bytes.Grammar.{row}
use Rattle.store_bytes.specs.segment_bytes.Rows.{rows_of}
use Rattle.store_bytes.specs.segment_bytes.Writing.{cells_after, row_bins, row_of}
use Rattle.store_bytes.proofs.on_segment_bytes.Lengths.{rows_within}
use Rattle.store_bytes.proofs.on_segment_bytes.Listed.{put_done, put_steps}
use Rattle.store_bytes.proofs.on_segment_bytes.Walked.{after_end, after_start, rows_row}
use Rattle.store_bytes.proofs.segment_bytes.encoding.put_all_rows.Goals as goal

pub loop-lo-init : goal.loop-lo-init
loop-lo-init c =
    let k = c.args.segment.now.grid.classes in
    let cells = c.args.segment.now.tally.cells in
    let start = ap rows_of (after_start k cells (cells_in_order k cells c.grid-grid.ensures.parts.ordered.cells)) in
    record {
      front = ap (λ l. take c.args.at c.args.buf.now ++ flat_map row l) start;
      place = omega (arith, ap (λ l. length (flat_map row l)) start);
      rows = omega (arith, ap length start);
      long = refl;
      places = refl;
    }

pub put_row_at-next-requires-clause-room : goal.put_row_at-next-requires-clause-room
put_row_at-next-requires-clause-room c =
    let v = c.loop-lo.invariant in
    let k = c.args.segment.now.grid.classes in
    let cells = c.args.segment.now.tally.cells in
    let lo = c.loop-lo.lo in
    let one = row_of lo (row_bins c.args.segment.now lo) in
    let rest = rows_of (cells_after (lo + 1) 0 cells) in
    let same = ap (λ (g : GridValue). g.classes) c.grid-grid.ensures.value in
    let split = rows_row k lo cells (cells_in_order k cells c.grid-grid.ensures.parts.ordered.cells)
    (omega (arith, c.loop-lo-test.true, c.classes-lo-end.ensures.value, same)) in
    omega (
      arith,
      v.place,
      v.long,
      c.requires.room,
      ap (λ l. length (flat_map row l)) split,
      ap length (flat_map-append row one rest),
      length-append (flat_map row one) (flat_map row rest),
    )

pub overflow_add-rows : goal.overflow_add-rows
overflow_add-rows c =
    let v = c.loop-lo.invariant in
    let k = c.args.segment.now.grid.classes in
    let cells = c.args.segment.now.tally.cells in
    let lo = c.loop-lo.lo in
    let one = row_of lo (row_bins c.args.segment.now lo) in
    let rest = rows_of (cells_after (lo + 1) 0 cells) in
    let same = ap (λ (g : GridValue). g.classes) c.grid-grid.ensures.value in
    let split = rows_row k lo cells (cells_in_order k cells c.grid-grid.ensures.parts.ordered.cells)
    (omega (arith, c.loop-lo-test.true, c.classes-lo-end.ensures.value, same)) in
    let most = rows_within c.args.segment.now.grid (parts_of c.args.segment.now) c.grid-grid.ensures.parts in
    omega (
      arith,
      v.rows,
      ap length split,
      length-append one rest,
      c.put_row_at-next.ensures.rows,
      most,
      c.classes-lo-end.ensures.value,
      same,
      c.classes-lo-end.ensures.limits.classes_to,
    )

pub loop-lo-preserved : goal.loop-lo-preserved
loop-lo-preserved c =
    let v = c.loop-lo.invariant in
    let k = c.args.segment.now.grid.classes in
    let cells = c.args.segment.now.tally.cells in
    let lo = c.loop-lo.lo in
    let one = row_of lo (row_bins c.args.segment.now lo) in
    let rest = rows_of (cells_after (lo + 1) 0 cells) in
    let same = ap (λ (g : GridValue). g.classes) c.grid-grid.ensures.value in
    let split = rows_row k lo cells (cells_in_order k cells c.grid-grid.ensures.parts.ordered.cells)
    (omega (arith, c.loop-lo-test.true, c.classes-lo-end.ensures.value, same)) in
    record {
      front = put_steps row (take c.loop-lo.at c.loop-lo.buf) (take c.put_row_at-next.result.0 c.put_row_at-next.new.buf) one rest
          (rows_of (cells_after lo 0 cells)) (take c.args.at c.args.buf.now ++ flat_map row (rows_of cells))
          c.put_row_at-next.ensures.puts.front split v.front;
      place = omega (
        arith,
        v.place,
        c.put_row_at-next.ensures.puts.next_is,
        ap (λ l. length (flat_map row l)) split,
        ap length (flat_map-append row one rest),
        length-append (flat_map row one) (flat_map row rest),
      );
      rows = omega (arith, v.rows, c.put_row_at-next.ensures.rows, ap length split, length-append one rest);
      long = omega (arith, c.put_row_at-next.auto.buf, v.long);
      places = omega (arith, c.put_row_at-next.auto.counts, v.places);
    }

pub returns-clause-puts : goal.returns-clause-puts
returns-clause-puts c =
    let v = c.loop-lo.invariant in
    let k = c.args.segment.now.grid.classes in
    let cells = c.args.segment.now.tally.cells in
    let same = ap (λ (g : GridValue). g.classes) c.grid-grid.ensures.value in
    let none = ap rows_of (after_end 0 0 k c.loop-lo.lo cells (cells_in_order k cells c.grid-grid.ensures.parts.ordered.cells)
    (omega (arith, c.loop-lo-test.false, c.classes-lo-end.ensures.value, same))) in
    record {
      next_is = omega (arith, v.place, ap (λ l. length (flat_map row l)) none);
      front = put_done row (take c.loop-lo.at c.loop-lo.buf) (rows_of (cells_after c.loop-lo.lo 0 cells))
          (take c.args.at c.args.buf.now ++ flat_map row (rows_of cells)) none v.front;
    }

pub returns-clause-rows : goal.returns-clause-rows
returns-clause-rows c =
    let v = c.loop-lo.invariant in
    let k = c.args.segment.now.grid.classes in
    let cells = c.args.segment.now.tally.cells in
    let same = ap (λ (g : GridValue). g.classes) c.grid-grid.ensures.value in
    let none = ap rows_of (after_end 0 0 k c.loop-lo.lo cells (cells_in_order k cells c.grid-grid.ensures.parts.ordered.cells)
    (omega (arith, c.loop-lo-test.false, c.classes-lo-end.ensures.value, same))) in
    omega (arith, v.rows, ap length none)
