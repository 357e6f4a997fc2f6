use Rattle.std.proofs.Common.{arith}
use Rattle.std.proofs.lemmas.List.Sums.{sum_by_more_le}
use Rattle.tally.proofs.Equal.{cell_of}
use Rattle.tally.proofs.LogCells.{amount_in, amount_le}
use Rattle.tally.proofs.entries.amount_in.Goals as goal

pub overflow_add-sum : goal.overflow_add-sum
overflow_add-sum c =
    let l = c.args.entries.now in
    let n = sum_by_more_le (amount_in c.args.lo c.args.hi) l c.loop-entry.entry-index (cell_of 0 0 0) c.loop-entry-test.true in
    omega (arith, c.loop-entry.invariant, c.part-sum.ensures, n, amount_le l c.args.lo c.args.hi, c.requires)
