use Rattle.std.proofs.Common.{arith}
use Rattle.tally.proofs.Ordered.{row_within}
use Rattle.tally.proofs.layout.row_of.Goals as goal

pub overflow_add-lo : goal.overflow_add-lo
overflow_add-lo c = omega (arith, row_within c.args.classes c.loop-lo.lo c.args.place c.loop-lo.invariant c.requires.within)

pub row-requires : goal.row-requires
row-requires c = record { within = row_within c.args.classes c.loop-lo.lo c.args.place c.loop-lo.invariant c.requires.within }

pub overflow_add-lo-in-loop-lo : goal.overflow_add-lo-in-loop-lo
overflow_add-lo-in-loop-lo c = omega (arith, row_within c.args.classes c.loop-lo.lo c.args.place c.loop-lo.invariant c.requires.within)

pub loop-lo-smaller : goal.loop-lo-smaller
loop-lo-smaller c = omega (arith, row_within c.args.classes c.loop-lo.lo c.args.place c.loop-lo.invariant c.requires.within)
