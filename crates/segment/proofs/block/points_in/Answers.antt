use Rattle.std.proofs.Common.{arith}
use Rattle.calibration.proofs.Places.{counts_add}
use Rattle.segment.proofs.block.points_in.Goals as goal

pub returns-clause-sum : goal.returns-clause-sum
returns-clause-sum c =
    let k = c.levels-kinds.ensures in
    let v = c.args.classifier.now in
    omega (arith, counts_add v.gain v.grid c.args.raws.now, k.used, k.missing, k.refused)
