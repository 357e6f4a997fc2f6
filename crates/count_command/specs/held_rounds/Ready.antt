-- What must hold before rounds are made.
--   AreOpened       a store is on its station, and lanes stand where what it holds of each gauge ends
--   AreOpenedLanes  so it is of a station and the sources of lanes
--   AreRoundsFor    prepared rounds, and a board for them; AreRoundsToMake: while the board was not taken
use Rattle.std.specs.Prelude.{◌≡◌, ℕ, List, length, false, Option, Some, None}
use Rattle.std.specs.List.{All}
use Rattle.outside.specs.station.Station.{Image}
use Rattle.outside.specs.declared.source.Source as source
use Rattle.outside.specs.declared.station.station.Station as station
use Rattle.board.specs.Board.{BoardValue}
use Rattle.count_workers.specs.declared.lane_loans.lane.Lane.{Lane}
use Rattle.count_workers.specs.round_making.Resting.{PreparedValue}
use Rattle.segment_store.specs.Held.{ends_of}
use Rattle.segment_store.specs.Moments.{StoreValue, IsThere}
use Rattle.site_config.specs.declared.config.Config.{Config}
use Rattle.site_config.specs.Valid.{IsConfig}
use Rattle.site_lanes.specs.Lanes.{AreHeldTo, HasSource, IsFaulty}
use Rattle.count_command.specs.held_rounds.Beside.{IsBoardFor}

-- tells, seen and leaves are of the station, failed counts faults of a source
pub record AreOpened {C : Type 0} (tells : Type 0) (failed : C → ℕ) (config : Config) (store : StoreValue)
    (lanes : List (Lane C)) (seen : Image) (leaves : Image → Type 0) : Type 0 where
  pub config_is : IsConfig config
  pub usable : store.shut ≡ false
  pub gauges : length store.held ≡ length config.gauges
  pub count : length lanes ≡ length config.gauges
  pub setup : store.head.setup ≡ config.setup
  pub held : AreHeldTo (ends_of store.held) lanes
  pub sources : All HasSource lanes
  pub faulty : All (IsFaulty failed) lanes
  pub there : tells → IsThere store seen leaves

abbrev pub AreOpenedLanes : {C K : Type 0} → source.Ghosts C → station.Ghosts K → Config → StoreValue → List (Lane C) →
    K → Type 0
AreOpenedLanes t v config store lanes station =
    AreOpened v.tells t.faults config store lanes (v.seen station) (v.leaves station)

pub record AreRoundsFor (config : Config) (prepared : PreparedValue) (board : BoardValue) : Type 0 where
  pub gauges : prepared.gauges ≡ length config.gauges
  pub grid : prepared.grid ≡ config.setup.grid
  pub block : prepared.block ≡ config.block
  pub board_is : IsBoardFor prepared board

abbrev pub AreRoundsToMake : Config → PreparedValue → Option BoardValue → Type 0
AreRoundsToMake config prepared None = ⊥
AreRoundsToMake config prepared (Some board) = AreRoundsFor config prepared board
