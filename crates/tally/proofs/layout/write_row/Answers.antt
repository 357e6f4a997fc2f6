use Rattle.std.proofs.Common.{rules, length, ◌+◌, ◌≤◌, arith}
use Rattle.tally.proofs.RowCounts.{row_end}
use Rattle.tally.proofs.layout.write_row.Goals as goal

pub slice_bounds-copy_from_slice-end : goal.slice_bounds-copy_from_slice-end
slice_bounds-copy_from_slice-end c =
    let e : c.row-first.result + length c.args.out.now ≤ length c.args.counts.now = omega (
      arith,
      c.row-first.ensures.start,
      row_end c.args.classes c.args.lo (length c.args.out.now)
          (length c.args.counts.now) c.requires.row c.requires.places,
    ) in
    search rules
