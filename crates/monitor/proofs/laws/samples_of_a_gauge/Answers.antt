use Rattle.monitor.proofs.Numerals.{too_many}
use Rattle.monitor.proofs.laws.samples_of_a_gauge.Goals as goal

pub returns-clause-most : goal.returns-clause-most
returns-clause-most c = too_many
