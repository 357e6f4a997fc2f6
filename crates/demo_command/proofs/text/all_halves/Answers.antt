use Rattle.std.proofs.Common.{◌∙◌, ap, arith}
use Rattle.calibration.specs.Grid.{GridValue}
use Rattle.calibration.specs.History.{history}
use Rattle.turning_points.specs.three_point.Run.{half_units}
use Rattle.demo_command.specs.Made.{demo_grid, demo_gain}
use Rattle.demo_command.proofs.Sums.{table_sum}
use Rattle.demo_command.proofs.text.all_halves.Goals as goal

pub returns : goal.returns
returns c = λ w stands. table_sum c.half_units.new.out c.sum_of.result (history demo_grid demo_gain w) c.sum_of.ensures
    (c.half_units.ensures.length)
    (λ k from to. c.half_units.ensures.stands demo_gain w stands k from (omega
    (arith, to, ap (λ (g : GridValue). g.classes) c.requires.grid)) ∙ ap (λ (g : GridValue). half_units (history g demo_gain w) k)
    c.requires.grid)
