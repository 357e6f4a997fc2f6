use Rattle.std.proofs.Common.{[], ◌∷◌, ◌++◌, map, arith}
use Rattle.std.proofs.lemmas.Result.{err_from_is_err_and}
use Rattle.store_bytes.specs.segment_bytes.Fields.{entry_list}
use Rattle.store_bytes.specs.segment_bytes.Grammar.{bin_at}
use Rattle.store_bytes.specs.segment_bytes.Rows.{cell_in}
use Rattle.store_bytes.proofs.on_segment_bytes.Loops.{seen, seen_ends, seen_on}
use Rattle.store_bytes.proofs.on_segment_bytes.RowReading.{one_cell, cells_done}
use Rattle.store_bytes.proofs.segment_bytes.row_reading.push_cells.Goals as goal

pub returns-in_err-bin-clause-reads : goal.returns-in_err-bin-clause-reads
returns-in_err-bin-clause-reads c =
    let p = err_from_is_err_and c.from_residual.result c.from_residual.ensures.1 in
    rw (p.1, p.2) (seen_ends bin_at c.args.have c.in_err-bin.field-0.0 (λ bins. c.loop.cells.items ++ map (cell_in c.args.lo) bins)
    c.args.count c.loop.counter c.loop.rest.now
    (seen (λ bins. c.args.cells.now.items ++ map (cell_in c.args.lo) bins) (entry_list bin_at c.args.count c.args.have c.args.bytes.now))
    c.loop-test.true c.in_err-bin.ensures.reads c.loop.invariant.so_far)

pub loop-preserved : goal.loop-preserved
loop-preserved c = record {
  so_far = rw c.in_ok-push.ensures.items (seen_on bin_at c.args.have (λ bins. c.loop.cells.items ++ map (cell_in c.args.lo) bins)
      (λ bins. (c.loop.cells.items ++ cell_in c.args.lo c.in_ok-bin.bin ∷ []) ++ map (cell_in c.args.lo) bins) c.args.count c.loop.counter
      c.loop.rest.now c.in_ok-bin.bin c.in_ok-bin.after.now
      (seen (λ bins. c.args.cells.now.items ++ map (cell_in c.args.lo) bins) (entry_list bin_at c.args.count c.args.have c.args.bytes.now))
      c.loop-test.true (λ bins. one_cell c.loop.cells.items c.args.lo c.in_ok-bin.bin bins) c.in_ok-bin.ensures.reads
      c.loop.invariant.so_far);
  within = omega (arith, c.in_ok-bin.ensures.rest);
  few = omega (arith, c.in_ok-push.ensures.len, c.loop.invariant.few);
}

pub returns-clause-reads : goal.returns-clause-reads
returns-clause-reads c = cells_done c.loop.cells.items c.args.lo c.args.have c.args.count c.loop.counter c.loop.rest.now
    (seen (λ bins. c.args.cells.now.items ++ map (cell_in c.args.lo) bins) (entry_list bin_at c.args.count c.args.have c.args.bytes.now))
    c.loop-test.false c.loop.invariant.so_far
