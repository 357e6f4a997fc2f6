use Rattle.std.proofs.Common.{arith}
use Rattle.std.proofs.lemmas.Result.{err_from_is_err_and}
use Rattle.store_bytes.specs.segment_bytes.Fields.{entry_list}
use Rattle.store_bytes.specs.segment_bytes.Grammar.{row_at}
use Rattle.store_bytes.specs.segment_bytes.RowReading.{no_rows, with_row, with_rows}
use Rattle.store_bytes.specs.segment_bytes.Views.{see_rows}
use Rattle.store_bytes.proofs.on_segment_bytes.Loops.{seen, seen_ends, fails_seen}
use Rattle.store_bytes.proofs.on_segment_bytes.RowReading.{rows_on, rows_done}
use Rattle.store_bytes.proofs.segment_bytes.row_reading.rows_of.Goals as goal

pub returns-in_err-after-clause-reads : goal.returns-in_err-after-clause-reads
returns-in_err-after-clause-reads c =
    let p = err_from_is_err_and c.from_residual-in_err-after.result c.from_residual-in_err-after.ensures.1 in
    rw (p.1, p.2) (seen_ends row_at c.args.have c.in_err-after.field-0.0 (with_rows c.args.classes (see_rows c.loop.rows)) c.args.count
    c.loop.counter c.loop.rest.now (seen (with_rows c.args.classes no_rows) (entry_list row_at c.args.count c.args.have c.args.bytes.now))
    c.loop-test.true
    (fails_seen c.in_err-after.field-0.0 (with_row c.args.classes (see_rows c.loop.rows)) (row_at c.args.have c.loop.rest.now)
    c.in_err-after.ensures.reads)
    c.loop.invariant.so_far)

pub loop-preserved : goal.loop-preserved
loop-preserved c = record {
  so_far = rows_on c.args.classes (see_rows c.loop.rows) _ c.args.have c.args.count c.loop.counter c.loop.rest.now
      c.in_ok-after.after.now (seen (with_rows c.args.classes no_rows) (entry_list row_at c.args.count c.args.have c.args.bytes.now))
      c.loop-test.true c.in_ok-after.ensures.reads c.loop.invariant.so_far;
  within = omega (arith, c.in_ok-after.ensures.rest, c.loop.invariant.within);
  few = omega (arith, c.in_ok-after.ensures.few, c.loop.invariant.few);
}

pub returns-clause-reads : goal.returns-clause-reads
returns-clause-reads c = rows_done c.args.classes (see_rows c.loop.rows) c.args.have c.args.count c.loop.counter c.loop.rest.now
    (seen (with_rows c.args.classes no_rows) (entry_list row_at c.args.count c.args.have c.args.bytes.now)) c.loop-test.false
    c.loop.invariant.so_far
