-- What contracts see of the cycles of a repeating history, and what always holds of them.
--   RepeatingValue   the grid, and the cycles by pair of levels
--   no_cycles        none over a grid, with room for each pair
--   IsRepeating      there is room for each pair, and there are no more half units than a recording has samples
use Rattle.std.specs.Prelude.{◌≡◌, ◌≤◌, ◌*◌, []}
use Rattle.calibration.specs.declared.limits.TheConstants.{MAX_SAMPLES}
use Rattle.calibration.specs.Grid.{GridValue, IsGrid}
use Rattle.tally.specs.Counts.{Counts, IsCounts, HasGreatestRoom, most_cells, total_of}

pub record RepeatingValue : Type 0 where
  pub grid : GridValue
  pub tally : Counts

abbrev pub no_cycles : GridValue → RepeatingValue
no_cycles grid =
    record { grid = grid; tally = record { classes = grid.classes; room = most_cells grid.classes; cells = [] } }

pub record IsRepeating (v : RepeatingValue) : Type 0 where
  pub limits : IsGrid v.grid
  pub counts : IsCounts v.tally
  pub classes : v.tally.classes ≡ v.grid.classes
  pub room : HasGreatestRoom v.tally
  -- a cycle is two half units
  pub few : 2 * total_of v.tally.cells ≤ MAX_SAMPLES
