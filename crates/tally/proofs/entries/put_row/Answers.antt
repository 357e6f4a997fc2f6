use Rattle.tally.proofs.Equal.{cell_of}
use Rattle.tally.proofs.RowCounts.{row_fits}
use Rattle.tally.proofs.entries.put_row.Goals as goal

pub add_to_row-requires-clause-fits : goal.add_to_row-requires-clause-fits
add_to_row-requires-clause-fits c = λ k.
    row_fits c.args.entries.now c.loop-entry.out c.args.lo c.loop-entry.entry-index k
    (cell_of 0 0 0) c.loop-entry-test.true c.requires.total
    c.loop-entry.invariant.so_far
