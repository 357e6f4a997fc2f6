-- The greatest category is 160.
use Rattle.std.proofs.Common.{arith}
use Rattle.damage.proofs.on_sn_curve.Powers.{normal_bound}
use Rattle.damage.proofs.sn_curve.curve.normal_denominator.Goals as goal

pub pow-requires : goal.pow-requires
pow-requires c = omega (arith, normal_bound c.args.category c.requires)

pub overflow_mul-result : goal.overflow_mul-result
overflow_mul-result c = omega (arith, normal_bound c.args.category c.requires)

pub returns-clause-fits : goal.returns-clause-fits
returns-clause-fits c = omega (arith, normal_bound c.args.category c.requires)
