-- The text of a gauge.
--   count_is   the text of a count is that of the cycles that it has
--   gauge_is   the text of a gauge, by the grid and the name that are at hand
use Rattle.std.proofs.Common.{◌≡◌, ◌≤◌, ℕ, ℤ, List, sym, ap, ◌∙◌}
use Rattle.calibration.specs.Grid.{GridValue}
use Rattle.calibration.specs.History.{history}
use Rattle.tally.specs.Counts.{count_of}
use Rattle.repeating.specs.Repeating.{repeating_cycles}
use Rattle.repeating.specs.Value.{RepeatingValue}
use Rattle.report.specs.Repeat.{repeat_text}
use Rattle.report.proofs.Repeats.{repeat_text-same}
use Rattle.segment_store.specs.Holds.{gain_at}
use Rattle.site_config.specs.Valid.{name_of}
use Rattle.site_config.specs.declared.config.Config.{Config}
use Rattle.report_command.specs.repeat_command.Printing.{cycles_by, text_of_gauge}

pub count_is : (v : RepeatingValue) (grid : GridValue) (name : List ℕ) (cycles : ℕ → ℕ → ℕ) → v.grid ≡ grid → 1 ≤ v.grid.classes
    → ((lo hi : ℕ) → count_of v.tally.cells lo hi ≡ cycles lo hi) →
    repeat_text v.grid name (count_of v.tally.cells) ≡ repeat_text grid name cycles
count_is v grid name cycles over some same =
    repeat_text-same v.grid name (count_of v.tally.cells) cycles some (λ lo hi ordered within. same lo hi)
    ∙ ap (λ (k : GridValue). repeat_text k name cycles) over

pub gauge_is : (c : Config) (w : ℕ → List ℤ) (g : ℕ) (grid : GridValue) (name : List ℕ) → grid ≡ c.setup.grid → name_of c g ≡ name
    → repeat_text grid name (repeating_cycles (history grid (gain_at c.setup g) (w g))) ≡ text_of_gauge c w g
gauge_is c w g grid name over is =
    ap (λ (k : GridValue). repeat_text k name (repeating_cycles (history k (gain_at c.setup g) (w g)))) over
    ∙ ap (λ (l : List ℕ). repeat_text c.setup.grid l (cycles_by c w g)) (sym is)
