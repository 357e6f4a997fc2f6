use Rattle.repeating.proofs.Turned.{adds_its_cycles}
use Rattle.repeating.proofs.laws.turned.Goals as goal

pub returns : goal.returns
returns c = adds_its_cycles
