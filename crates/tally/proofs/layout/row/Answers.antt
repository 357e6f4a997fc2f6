use Rattle.std.proofs.Common.{arith}
use Rattle.tally.proofs.Places.{row_start_is}
use Rattle.tally.proofs.layout.row.Goals as goal

pub returns-clause-start : goal.returns-clause-start
returns-clause-start c = omega (arith, row_start_is c.args.classes c.args.lo c.requires.within)
