use Rattle.tally.proofs.LogCells.{counts_log}
use Rattle.tally.proofs.log.Log.classes.Goals as goal

pub returns-clause-counts : goal.returns-clause-counts
returns-clause-counts c = rw (← c.self.view_is) (counts_log c.self.invariant)
