use Rattle.std.proofs.Common.{length, length-take-le, subst, ap, arith}
use Rattle.std.specs.List.{flat_map}
use Rattle.calibration.specs.Grid.{GridValue}
use Rattle.store_bytes.specs.segment_bytes.Grammar.{row}
use Rattle.store_bytes.specs.segment_bytes.Writing.{Puts, row_of}
use Rattle.store_bytes.proofs.on_segment_bytes.Encoded.{row_is}
use Rattle.store_bytes.proofs.segment_bytes.encoding.put_row_at.Goals as goal

pub put_row-requires-clause-room : goal.put_row-requires-clause-room
put_row-requires-clause-room c =
    omega (
      arith,
      c.requires.room,
      ap (λ l. length (flat_map row (row_of c.args.lo l)))
          (row_is c.args.segment.now c.args.lo c.write_cycles.new.out
          (omega (
            arith,
            c.write_cycles.auto.out,
            length-take-le c.from.result c.args.counts.now
                (omega (
                  arith,
                  c.requires.places,
                  c.from.ensures,
                  c.classes.ensures.value,
                  ap (λ (g : GridValue). g.classes) c.grid-grid.ensures.value,
                )),
            c.from.ensures,
            c.classes.ensures.value,
            ap (λ (g : GridValue). g.classes) c.grid-grid.ensures.value,
          )) c.write_cycles.ensures),
    )

pub returns-clause-puts : goal.returns-clause-puts
returns-clause-puts c =
    subst (λ l. Puts c.args.at (flat_map row (row_of c.args.lo l)) c.args.buf.now c.put_row.new.buf c.put_row.result.0)
    (row_is c.args.segment.now c.args.lo c.write_cycles.new.out
    (omega (
      arith,
      c.write_cycles.auto.out,
      length-take-le c.from.result c.args.counts.now
          (omega (
            arith,
            c.requires.places,
            c.from.ensures,
            c.classes.ensures.value,
            ap (λ (g : GridValue). g.classes) c.grid-grid.ensures.value,
          )),
      c.from.ensures,
      c.classes.ensures.value,
      ap (λ (g : GridValue). g.classes) c.grid-grid.ensures.value,
    )) c.write_cycles.ensures)
    c.put_row.ensures.puts

pub returns-clause-rows : goal.returns-clause-rows
returns-clause-rows c =
    omega (
      arith,
      c.put_row.ensures.rows,
      ap (λ l. length (row_of c.args.lo l)) (row_is c.args.segment.now c.args.lo c.write_cycles.new.out
          (omega (
            arith,
            c.write_cycles.auto.out,
            length-take-le c.from.result c.args.counts.now
                (omega (
                  arith,
                  c.requires.places,
                  c.from.ensures,
                  c.classes.ensures.value,
                  ap (λ (g : GridValue). g.classes) c.grid-grid.ensures.value,
                )),
            c.from.ensures,
            c.classes.ensures.value,
            ap (λ (g : GridValue). g.classes) c.grid-grid.ensures.value,
          )) c.write_cycles.ensures),
    )
