use Rattle.std.proofs.Common.{◌+◌, ◌++◌, ◌∙◌, drop, length, take, refl, ap, arith}
use Rattle.std.specs.Int.{w16, to_be_bytes}
use Rattle.std.specs.List.{flat_map}
use Rattle.store_bytes.specs.segment_bytes.Grammar.{row}
use Rattle.store_bytes.specs.segment_bytes.Rows.{rows_of}
use Rattle.store_bytes.proofs.on_segment_bytes.Encoded.{number_before}
use Rattle.store_bytes.proofs.on_segment_bytes.Rows.{cells_again}
use Rattle.store_bytes.proofs.on_segment_bytes.Lengths.{rows_long}
use Rattle.store_bytes.proofs.segment_bytes.encoding.put_rows.Goals as goal

pub put_all_rows-end-requires-clause-room : goal.put_all_rows-end-requires-clause-room
put_all_rows-end-requires-clause-room c =
    omega (
      arith,
      c.requires.room,
      rows_long (rows_of c.args.segment.now.tally.cells),
      ap length
          (cells_again c.args.segment.now.tally.cells),
    )

pub returns-clause-puts : goal.returns-clause-puts
returns-clause-puts c =
    let rows = rows_of c.args.segment.now.tally.cells in
    let all = c.put_all_rows-end.ensures in
    let mid = c.put_all_rows-end.new.buf in
    number_before 2 (to_be_bytes w16 (length rows)) (flat_map row rows) c.args.buf.now mid c.set_u16.new.buf c.args.at
    c.put_all_rows-end.result.0 refl all.puts
    (omega (
      arith,
      all.puts.next_is,
      rows_long rows,
      ap length (cells_again c.args.segment.now.tally.cells),
      c.requires.room,
      c.put_all_rows-end.auto.buf,
    ))
    (omega (arith, c.put_all_rows-end.auto.buf)) (c.set_u16.ensures
    ∙ ap (λ n. take c.args.at mid ++ to_be_bytes w16 n ++ drop (c.args.at + 2) mid) all.rows)

pub returns-clause-next : goal.returns-clause-next
returns-clause-next c =
    omega (
      arith,
      c.put_all_rows-end.ensures.puts.next_is,
      rows_long (rows_of c.args.segment.now.tally.cells),
      ap length (cells_again c.args.segment.now.tally.cells),
    )
