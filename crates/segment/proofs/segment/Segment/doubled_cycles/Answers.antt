use Rattle.std.proofs.Common.{arith}
use Rattle.segment.proofs.HalfUnits.{count_few}
use Rattle.segment.proofs.segment.Segment.doubled_cycles.Goals as goal

pub overflow_mul-result : goal.overflow_mul-result
overflow_mul-result c =
    let i = c.self.invariant in
    let a = i.span in
    omega (arith, c.get.ensures, count_few c.self.inside.tally.cells c.args.lo c.args.hi, i.balance, i.used, i.readings)

pub returns-clause-few : goal.returns-clause-few
returns-clause-few c =
    let i = c.self.invariant in
    let a = i.span in
    omega (arith, c.get.ensures, count_few c.self.inside.tally.cells c.args.lo c.args.hi, i.balance, i.used, i.readings)
