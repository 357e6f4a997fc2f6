-- The places of the two bounds are quotients by the gain.
use Rattle.std.proofs.Common.{subst, sym, arith, ◌≤ℤ◌}
use Rattle.std.specs.Prelude.{pos, ◌<ℤ◌}
use Rattle.std.specs.Int.{w32, w64}
use Rattle.std.proofs.lemmas.Int.{to_z-of_z, ints}
use Rattle.calibration.proofs.Bounds.{below_is, positive, within_bounds}
use Rattle.calibration.proofs.classifier.bounds_of.Goals as goal

pub returns : goal.returns
returns c = λ raw fits low high.
    let above : pos 0 <ℤ c.args.num = omega (arith, ints, c.if-num-le0.false, to_z-of_z w64 c.args.num c.ranges.num) in
    let (num, rises) = positive c.args.num c.cast_unsigned-step.result c.ranges.num above c.cast_unsigned-step.ensures in
    let below = below_is c.args.num c.args.shift c.max.result c.cast_unsigned-below.result c.requires.num c.requires.shift
    c.max.ensures.value c.cast_unsigned-below.ensures in
    let within = within_bounds raw c.args.num c.args.shift c.value_at.result c.value_at-2.result c.cast_unsigned-step.result
    c.cast_unsigned-below.result c.args.limit fits num rises below c.value_at.ensures c.value_at-2.ensures low high in (
      subst (λ z. z ≤ℤ raw) (sym (to_z-of_z w32 c.value_at.result (record { sfits = c.value_at.type_inv }))) within.0,
      subst (λ z. raw ≤ℤ z) (sym (to_z-of_z w32 c.value_at-2.result (record { sfits = c.value_at-2.type_inv }))) within.1,
    )
