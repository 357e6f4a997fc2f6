use Rattle.tally.proofs.on_tables.Counting.{raised_if}
use Rattle.tally.proofs.tables.add_if.Goals as goal

pub returns : goal.returns
returns c = raised_if _ _ _ _ c.requires.within c.from.ensures
