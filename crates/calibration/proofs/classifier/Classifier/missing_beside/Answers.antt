use Rattle.std.proofs.Common.{arith}
use Rattle.calibration.proofs.Places.{counts_add}
use Rattle.calibration.proofs.classifier.Classifier.missing_beside.Goals as goal

pub returns-then-used-raws : goal.returns-then-used-raws
returns-then-used-raws c = omega (arith, counts_add c.args.self.now.gain c.args.self.now.grid c.args.raws.now)
