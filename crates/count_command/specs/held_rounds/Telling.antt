-- What was told after so many rounds.
use Rattle.std.specs.Prelude.{◌≡◌, ◌<◌, ℕ, List, ◌++◌, length, slice_index_or}
use Rattle.outside.specs.station.Station.{Lines}
use Rattle.count_workers.specs.declared.lane_loans.lane.Lane.{Lane}
use Rattle.site_config.specs.recorded.Recorded.{Recorded}
use Rattle.count_command.specs.held_samples.Told.{held_lines, held_after}

-- the lines of so many rounds, from n samples on, and each lane stands where they end
pub record HasTold {C : Type 0} (block : ℕ) (r : Recorded) (n : List ℕ) (told told2 : Lines)
    (lanes : List (Lane C)) : Type 0 where
  pub rounds : ℕ
  pub are : told2 ≡ told ++ held_lines block r n rounds
  pub at : (g : ℕ) (d : Lane C) → g < length lanes → (slice_index_or lanes g d).at ≡ held_after block r n rounds g
