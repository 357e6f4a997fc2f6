use Rattle.std.proofs.Common.{◌≡◌, length, vec_len, arith}
use Rattle.std.proofs.lemmas.Result.{err_from_is_err_and}
use Rattle.store_bytes.specs.segment_bytes.Views.{see_rows}
use Rattle.store_bytes.proofs.on_segment_bytes.RowReading.{list_from, row_fails, row_is}
use Rattle.store_bytes.proofs.segment_bytes.row_reading.push_row.Goals as goal

pub returns-in_err-rest-clause-reads : goal.returns-in_err-rest-clause-reads
returns-in_err-rest-clause-reads c =
    let p = err_from_is_err_and c.from_residual-in_err-rest.result c.from_residual-in_err-rest.ensures.1 in
    rw (p.1, p.2) (row_fails c.in_err-rest.field-0.0 c.args.classes (see_rows c.args.rows.now) c.args.have c.in_ok-lo.lo
    c.in_ok-count.count c.args.bytes.now c.in_ok-lo.rest.now c.in_ok-count.rest.now c.in_ok-lo.ensures.reads
    c.in_ok-count.ensures.reads c.in_err-rest.ensures.reads)

pub returns-clause-reads : goal.returns-clause-reads
returns-clause-reads c =
    let long : vec_len c.args.rows.now.cells ≡ length c.args.rows.now.cells.items = omega (arith, c.args.rows.now.cells.ok.0) in
    rw (
      c.or-rows.ensures,
      c.first_wrong_in-wrong.ensures,
      c.from.ensures,
      c.len-start.ensures,
      c.deref.ensures.value,
      long,
      list_from
          (length c.args.rows.now.cells.items) c.push_cells.new.cells.items,
    ) (row_is c.args.classes (see_rows c.args.rows.now) c.args.have
    c.in_ok-lo.lo c.in_ok-count.count c.args.bytes.now c.in_ok-lo.rest.now c.in_ok-count.rest.now _ _ c.in_ok-lo.ensures.reads
    c.in_ok-count.ensures.reads c.in_ok-rest.ensures.reads)
