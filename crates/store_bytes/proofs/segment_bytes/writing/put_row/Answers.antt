use Rattle.std.proofs.Common.{◌+◌, arith}
use Rattle.store_bytes.specs.segment_bytes.Writing.{bins_of}
use Rattle.store_bytes.proofs.on_segment_bytes.Listed.{row_bytes}
use Rattle.store_bytes.proofs.segment_bytes.writing.put_row.Goals as goal

pub put_list-requires-clause-room : goal.put_list-requires-clause-room
put_list-requires-clause-room c =
    let n = row_bytes c.args.lo (bins_of (c.args.lo + 1) c.args.counts.now) (c.has_entry.ensures.some c.if-not-has_entry.false) in
    omega (arith, n, c.requires.room, c.put_u16-at.ensures.next_is, c.put_u16-at.auto.buf)
