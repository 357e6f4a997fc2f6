-- What the puts and lines of one board do, in one word: `Stores`, over the store and the station before and after them.
use Rattle.std.specs.Prelude.{◌≡◌, ◌<◌, ◌++◌, ℕ, List, length, false, Result, IsOk, OnOk, slice_index}
use Rattle.outside.specs.Fault.{HasCause}
use Rattle.outside.specs.Site.{Files}
use Rattle.outside.specs.declared.station.station.Station as station
use Rattle.board.specs.Board.{BoardValue}
use Rattle.segment_store.specs.Held.{ends_of}
use Rattle.segment.specs.segment_rules.Parts.{PartsValue}
use Rattle.segment_store.specs.Moments.{StoreValue, IsOn, IsThere}
use Rattle.site_config.specs.declared.config.Config.{Config}
use Rattle.site_config.specs.Valid.{name_of}
use Rattle.site_config.specs.recorded.Recorded.{recordings}
use Rattle.count_command.specs.held_samples.Told.{round_lines}
use Rattle.count_command.specs.held_samples.Kept.{Kept}
use Rattle.count_command.specs.held_samples.Going.{IsStoredAs, HoldsSinceOver}
use Rattle.count_command.specs.held_samples.Fronts.{FrontsEnd, FrontsFollow}
use Rattle.count_command.specs.held_samples.Pace.{window_of, PacedOver}

pub record Stores {K E : Type 0} (v : station.Ghosts K) (config : Config) (board : BoardValue) (old new : StoreValue)
    (station station2 : K) (result : Result (Unit {0}) E) : Type 0 where
  -- Every moment is kept, whatever it answers.
  pub going : v.tells → (files : Files) (kept : Kept) → IsStoredAs kept old (v.seen station) (v.leaves station) →
      FrontsFollow kept (length config.gauges) board →
      HoldsSinceOver v kept (recordings config files) (ends_of old.held) station station2 (ends_of new.held)
  pub stored : v.tells → (kept : Kept) → IsStoredAs kept old (v.seen station) (v.leaves station) →
      FrontsFollow kept (length config.gauges) board →
      OnOk result (IsStoredAs kept new (v.seen station2) (v.leaves station2))
  -- Each body is told before the next one is stored.
  pub paced : v.tells → board.block ≡ config.block → (bodies : List PartsValue) →
      IsOn old bodies (v.seen station) (v.leaves station) →
      PacedOver v (name_of config) (window_of config) old.head bodies station station2 new (IsOk result)
  pub lines : v.tells → OnOk result (v.told station2 ≡ v.told station ++
      round_lines (name_of config) (slice_index (ends_of old.held)) (slice_index (ends_of new.held))
      (length config.gauges))
  pub ends : (to : ℕ → ℕ) → FrontsEnd to board (length config.gauges) →
      OnOk result ((g : ℕ) → g < length config.gauges → slice_index (ends_of new.held) g ≡ to g)
  pub there : v.tells → OnOk result (IsThere new (v.seen station2) (v.leaves station2))
  pub usable : OnOk result (new.shut ≡ false)
  pub head : new.head ≡ old.head
  pub gauges : length new.held ≡ length old.held
  pub cause : HasCause (v.faults station) (v.faults station2) result
