-- The one quotient is that of the two floors.
use Rattle.std.proofs.Common.{◌≡◌, ◌*◌, ◌∙◌, ap, rules, arith}
use Rattle.std.specs.Prelude.{pos}
use Rattle.std.proofs.Math.IntN.{◌*ℤ◌, ◌-ℤ◌}
use Rattle.calibration.specs.Classifier.{width_of}
use Rattle.calibration.proofs.Class.{divided_level, divided_refused}
use Rattle.calibration.proofs.single.level.Goals as goal

pub returns-then-class-classes : goal.returns-then-class-classes
returns-then-class-classes c =
    let gain = c.args.gain.now in
    let grid = c.args.grid.now in
    let shift : c.shift_of-shift.result ≡ (gain.offset -ℤ grid.low_kpa) *ℤ pos gain.den = search rules in
    let width : c.den-den.result * (c.w2.result * 500) ≡ width_of gain grid =
    ap (λ y. y * (c.w2.result * 500)) c.den-den.ensures.value ∙ ap (λ y. gain.den * (y * 500)) c.w2.ensures.value in
    divided_level gain grid c.args.raw c.shift_of-shift.result _ c.stress_above.result c.cast_unsigned.result _
    c.den-den.ensures.limits c.w2.ensures.limits c.ranges.raw c.if-raw-eq-MISSING.false shift width
    c.num.ensures.value c.stress_above.ensures (search rules) c.cast_unsigned.ensures
    (omega (arith, c.if-class-classes.true, c.classes.ensures.value))

pub returns-else-class-classes : goal.returns-else-class-classes
returns-else-class-classes c =
    let gain = c.args.gain.now in
    let grid = c.args.grid.now in
    let shift : c.shift_of-shift.result ≡ (gain.offset -ℤ grid.low_kpa) *ℤ pos gain.den = search rules in
    let width : c.den-den.result * (c.w2.result * 500) ≡ width_of gain grid =
    ap (λ y. y * (c.w2.result * 500)) c.den-den.ensures.value ∙ ap (λ y. gain.den * (y * 500)) c.w2.ensures.value in
    divided_refused gain grid c.args.raw c.shift_of-shift.result _ c.stress_above.result c.cast_unsigned.result _
    c.den-den.ensures.limits c.w2.ensures.limits c.ranges.raw c.if-raw-eq-MISSING.false shift width
    c.num.ensures.value c.stress_above.ensures (search rules) c.cast_unsigned.ensures
    (omega (arith, c.if-class-classes.false, c.classes.ensures.value))
