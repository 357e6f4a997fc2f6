-- The greatest category is 160.
use Rattle.std.proofs.Common.{arith}
use Rattle.damage.proofs.on_sn_curve.Powers.{shear_bound}
use Rattle.damage.proofs.sn_curve.curve.shear_denominator.Goals as goal

pub pow-requires : goal.pow-requires
pow-requires c = omega (arith, shear_bound c.args.category c.requires)

pub overflow_mul-result-2 : goal.overflow_mul-result-2
overflow_mul-result-2 c = omega (arith, shear_bound c.args.category c.requires)

pub returns-clause-fits : goal.returns-clause-fits
returns-clause-fits c = omega (arith, shear_bound c.args.category c.requires)
