use Rattle.std.proofs.Common.{ℕ, ◌-◌, List, [], length, refl, ap, subst}
use Rattle.std.specs.Prelude.{IfOk, sum}
use Rattle.recount.specs.Counted.{HasCountedSamples}
use Rattle.monitor.specs.Figures.{HoldHalfUnits, MOST_HALF_UNITS}
use Rattle.monitor.specs.Printed.{table_grid, table_gain}
use Rattle.monitor.proofs.counting.no_samples.Goals as goal

pub returns : goal.returns
returns c =
    subst (λ (start : ℕ). IfOk c.new-2.result (λ count. HasCountedSamples (λ (h : List ℕ). length h)
    (λ (h : List ℕ). MOST_HALF_UNITS - sum h) HoldHalfUnits start table_grid table_gain count []))
    (ap (λ (n : ℕ). MOST_HALF_UNITS - n) c.in_ok-half_units.ensures.total) (c.new-2.ensures table_grid table_gain refl)
