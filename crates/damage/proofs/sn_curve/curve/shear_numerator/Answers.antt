-- The factored range is at most 54000 fortieths, the category at least 80.
use Rattle.std.proofs.Common.{◌*◌, arith}
use Rattle.std.proofs.Math.Nat.{one-le-pow}
use Rattle.damage.proofs.on_sn_curve.Powers.{fifth_bound, shear_below}
use Rattle.damage.proofs.sn_curve.curve.shear_numerator.Goals as goal

pub pow-requires : goal.pow-requires
pow-requires c = omega (arith, fifth_bound c.args.range c.requires.range)

pub returns-then-range-category-clause-below_one : goal.returns-then-range-category-clause-below_one
returns-then-range-category-clause-below_one c =
    omega (arith, shear_below c.args.range c.args.category c.requires.range c.requires.category_from)

pub returns-clause-below_one : goal.returns-clause-below_one
returns-clause-below_one c = omega (arith, one-le-pow 5 (40 * c.args.category) (omega arith))
