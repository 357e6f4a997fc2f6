-- Rounds that run beside the puts of the round before.
--   IsBoardFor  a board for prepared rounds
--   Leads       the fronts of a board lead from what is held to where the lanes are
use Rattle.std.specs.Prelude.{◌≡◌, ℕ, List, length}
use Rattle.calibration.specs.declared.setup.Setup.{Setup}
use Rattle.board.specs.Board.{BoardValue}
use Rattle.count_workers.specs.declared.lane_loans.lane.Lane.{Lane}
use Rattle.count_workers.specs.lane_loans.Lent.{at_of}
use Rattle.count_workers.specs.round_making.Resting.{PreparedValue}
use Rattle.count_command.specs.held_samples.Fronts.{AreFronts, FrontsEnd}

-- a board for rounds of so many gauges
abbrev pub IsBoardFor : PreparedValue → BoardValue → Type 0
IsBoardFor p b = (b.grid ≡ p.grid) × (b.block ≡ p.block) × (length b.rows ≡ p.gauges)

pub record Leads {C : Type 0} (setup : Setup) (ends : List ℕ) (board : BoardValue)
    (lanes : List (Lane C)) : Type 0 where
  pub fronts : AreFronts setup ends board (length lanes)
  pub to : FrontsEnd (at_of lanes) board (length lanes)
