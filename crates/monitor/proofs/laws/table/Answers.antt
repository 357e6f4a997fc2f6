use Rattle.monitor.proofs.Numerals.{table_level}
use Rattle.monitor.proofs.laws.table.Goals as goal

pub returns-clause-level : goal.returns-clause-level
returns-clause-level c = table_level
