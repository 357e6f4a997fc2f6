-- Each branch has its bound and its equation.
use Rattle.std.proofs.Common.{◌*◌, ◌^◌, sym, ap, subst, arith}
use Rattle.damage.specs.sn_curve.Curve.{IsNormalShare}
use Rattle.std.proofs.Math.Nat.{one-le-pow}
use Rattle.damage.proofs.on_sn_curve.Powers.{cube_bound, fifth_bound, slope_three_fits, slope_three_below, slope_five_below, product_is, is_slope_three, is_slope_five}
use Rattle.damage.proofs.sn_curve.curve.normal_numerator.Goals as goal

pub pow-requires : goal.pow-requires
pow-requires c = omega (arith, cube_bound c.args.range c.requires.range)

pub overflow_mul-result : goal.overflow_mul-result
overflow_mul-result c = omega (arith, cube_bound c.args.range c.requires.range)

pub overflow_mul-result-then-range-strength : goal.overflow_mul-result-then-range-strength
overflow_mul-result-then-range-strength c =
    omega (
      arith,
      product_is _ _ c.args.range c.args.category c.pow.ensures c.pow-then-range-strength.ensures,
      slope_three_fits c.args.range c.args.category c.requires.range c.requires.category_to,
    )

pub returns-then-range-strength-clause-share : goal.returns-then-range-strength-clause-share
returns-then-range-strength-clause-share c =
    subst (λ n. IsNormalShare c.args.range (40 * c.args.category) n (2500 * (737 * (40 * c.args.category)) ^ 5))
    (sym (product_is _ _ c.args.range c.args.category c.pow.ensures c.pow-then-range-strength.ensures))
    (is_slope_three c.args.range c.args.category c.if-range-strength.true)

pub returns-then-range-strength-clause-below_one :
    goal.returns-then-range-strength-clause-below_one
returns-then-range-strength-clause-below_one c =
    omega (
      arith,
      product_is _ _ c.args.range c.args.category c.pow.ensures c.pow-then-range-strength.ensures,
      slope_three_below c.args.range c.args.category c.requires.range c.requires.category_from,
    )

pub pow-requires-then-range-strength-2 : goal.pow-requires-then-range-strength-2
pow-requires-then-range-strength-2 c = omega (arith, fifth_bound c.args.range c.requires.range)

pub overflow_mul-result-then-range-strength-2 : goal.overflow_mul-result-then-range-strength-2
overflow_mul-result-then-range-strength-2 c = omega (arith, fifth_bound c.args.range c.requires.range)

pub returns-then-range-strength-2-clause-share : goal.returns-then-range-strength-2-clause-share
returns-then-range-strength-2-clause-share c =
    subst (λ n. IsNormalShare c.args.range (40 * c.args.category) n (2500 * (737 * (40 * c.args.category)) ^ 5))
    (sym (ap (λ y. y * 250000000000) c.pow-then-range-strength-2.ensures))
    (is_slope_five c.args.range c.args.category c.if-range-strength.false c.if-range-strength-2.true)

pub returns-then-range-strength-2-clause-below_one :
    goal.returns-then-range-strength-2-clause-below_one
returns-then-range-strength-2-clause-below_one c =
    omega (arith, slope_five_below c.args.range c.args.category c.requires.category_from c.if-range-strength.false)

pub returns-clause-below_one : goal.returns-clause-below_one
returns-clause-below_one c = omega (arith, one-le-pow 5 (737 * (40 * c.args.category)) (omega arith))
