use Rattle.std.proofs.Common.{length, length-take-le, map, subst, ap, arith}
use Rattle.std.specs.List.{flat_map}
use Rattle.calibration.specs.Grid.{GridValue}
use Rattle.store_bytes.specs.segment_bytes.Grammar.{cell}
use Rattle.store_bytes.specs.segment_bytes.Rows.{cell_in}
use Rattle.store_bytes.specs.segment_bytes.Writing.{Puts}
use Rattle.store_bytes.proofs.on_segment_bytes.Encoded.{row_is}
use Rattle.store_bytes.proofs.segment_bytes.encoding.put_cells_at.Goals as goal

pub put_cells_of_row-requires-clause-room : goal.put_cells_of_row-requires-clause-room
put_cells_of_row-requires-clause-room c =
    omega (
      arith,
      c.requires.room,
      ap length (row_is c.args.segment.now c.args.lo c.write_cycles.new.out
          (omega (
            arith,
            c.write_cycles.auto.out,
            length-take-le c.from.result c.args.counts.now
                (omega (
                  arith,
                  c.requires.places,
                  c.from.ensures,
                  c.classes.ensures.value,
                  ap (λ (g : GridValue). g.classes) c.grid-grid.ensures.value,
                )),
            c.from.ensures,
            c.classes.ensures.value,
            ap (λ (g : GridValue). g.classes) c.grid-grid.ensures.value,
          )) c.write_cycles.ensures),
    )

pub returns : goal.returns
returns c =
    subst (λ l. Puts c.args.at (flat_map cell (map (cell_in c.args.lo) l)) c.args.buf.now c.put_cells_of_row.new.buf
    c.put_cells_of_row.result)
    (row_is c.args.segment.now c.args.lo c.write_cycles.new.out
    (omega (
      arith,
      c.write_cycles.auto.out,
      length-take-le c.from.result c.args.counts.now
          (omega (
            arith,
            c.requires.places,
            c.from.ensures,
            c.classes.ensures.value,
            ap (λ (g : GridValue). g.classes) c.grid-grid.ensures.value,
          )),
      c.from.ensures,
      c.classes.ensures.value,
      ap (λ (g : GridValue). g.classes) c.grid-grid.ensures.value,
    )) c.write_cycles.ensures)
    c.put_cells_of_row.ensures
