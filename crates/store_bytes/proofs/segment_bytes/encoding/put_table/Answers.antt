use Rattle.std.proofs.Common.{length, length-take-le, subst, ap, arith}
use Rattle.std.specs.Int.{w16}
use Rattle.store_bytes.specs.segment_bytes.Fields.{list_bytes}
use Rattle.store_bytes.specs.segment_bytes.Grammar.{bin}
use Rattle.store_bytes.specs.segment_bytes.Writing.{Puts}
use Rattle.store_bytes.proofs.on_segment_bytes.Encoded.{table_bins}
use Rattle.store_bytes.proofs.segment_bytes.encoding.put_table.Goals as goal

pub put_list-requires-clause-room : goal.put_list-requires-clause-room
put_list-requires-clause-room c =
    let k = c.keys_of-first in
    omega (
      arith,
      c.requires.room,
      ap length (table_bins c.args.segment.now c.args.table k.result.0 k.result.1 c.fill.new.out k.ensures.first k.ensures.keys
          (omega (
            arith,
            c.fill.auto.out,
            c.from.ensures,
            length-take-le c.from.result c.args.counts.now
                (omega (arith, c.requires.places, c.from.ensures, k.ensures.within)),
          )) c.fill.ensures),
    )

pub returns-clause-puts : goal.returns-clause-puts
returns-clause-puts c =
    let k = c.keys_of-first in
    subst (λ l. Puts c.args.at (list_bytes w16 bin l) c.args.buf.now c.put_list.new.buf c.put_list.result)
    (table_bins c.args.segment.now c.args.table k.result.0 k.result.1 c.fill.new.out k.ensures.first k.ensures.keys
    (omega (
      arith,
      c.fill.auto.out,
      c.from.ensures,
      length-take-le c.from.result c.args.counts.now
          (omega (arith, c.requires.places, c.from.ensures, k.ensures.within)),
    )) c.fill.ensures) c.put_list.ensures.puts

pub returns-clause-next : goal.returns-clause-next
returns-clause-next c =
    let k = c.keys_of-first in
    omega (
      arith,
      c.put_list.ensures.next,
      ap length (table_bins c.args.segment.now c.args.table k.result.0 k.result.1 c.fill.new.out k.ensures.first k.ensures.keys
          (omega (
            arith,
            c.fill.auto.out,
            c.from.ensures,
            length-take-le c.from.result c.args.counts.now
                (omega (arith, c.requires.places, c.from.ensures, k.ensures.within)),
          )) c.fill.ensures),
    )
