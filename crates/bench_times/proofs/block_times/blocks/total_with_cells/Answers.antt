use Rattle.std.proofs.Common.{arith}
use Rattle.tally.proofs.Enough.{length-le-total_of}
use Rattle.bench_times.proofs.block_times.blocks.total_with_cells.Goals as goal

pub returns-clause-cells : goal.returns-clause-cells
returns-clause-cells c =
    let e = c.total.ensures in
    omega (arith, length-le-total_of c.args.tally.now.classes c.args.tally.now.cells e.counts.each, e.total)
