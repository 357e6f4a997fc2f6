use Rattle.std.proofs.Common.{◌-◌, arith}
use Rattle.segment.proofs.SideBySide.{pairs_end}
use Rattle.segment.proofs.neighbours.neighbours.Goals as goal

pub returns-clause-units : goal.returns-clause-units
returns-clause-units c =
    omega (arith, c.loop-i.invariant.units, pairs_end c.args.residue.now (c.loop-i.i - 1) (omega arith) c.args.lo c.args.hi)
