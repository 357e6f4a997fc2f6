-- What rounds until each lane has ended do, in one word: `RoundsMade`, over the store, the lanes and the station before
-- and after them.
use Rattle.std.specs.Prelude.{◌≡◌, ℕ, List, length, Result, IsOk, OnOk}
use Rattle.std.specs.List.{All}
use Rattle.outside.specs.Fault.{HasCause}
use Rattle.outside.specs.Site.{Files}
use Rattle.outside.specs.station.Station.{Lines}
use Rattle.outside.specs.declared.source.Source as source
use Rattle.outside.specs.declared.station.station.Station as station
use Rattle.count_workers.specs.declared.lane_loans.lane.Lane.{Lane}
use Rattle.segment_store.specs.Held.{ends_of}
use Rattle.segment.specs.segment_rules.Parts.{PartsValue}
use Rattle.segment_store.specs.Moments.{StoreValue, IsOn, IsThere}
use Rattle.site_config.specs.declared.config.Config.{Config}
use Rattle.site_config.specs.Valid.{name_of}
use Rattle.site_config.specs.recorded.Recorded.{recordings}
use Rattle.site_lanes.specs.Lanes.{AreLanes, AreHeldTo, HasSource, HasEnded, IsFaulty, IsWhole}
use Rattle.count_command.specs.held_samples.Kept.{beginning}
use Rattle.count_command.specs.held_samples.Going.{IsStored, HoldsSinceOver, HoldsSinceEntryOver}
use Rattle.count_command.specs.held_samples.Pace.{window_of, PacedOver}
use Rattle.count_command.specs.held_rounds.Telling.{HasTold}

pub record RoundsMade {C K E : Type 0} (t : source.Ghosts C) (v : station.Ghosts K) (config : Config)
    (old new : StoreValue) (lanes lanes2 : List (Lane C)) (station station2 : K) (result : Result (Unit {0}) E)
    : Type 0 where
  -- Every moment is kept, whatever it answers.
  pub going : v.tells → t.tells → (files : Files) → AreLanes t.tells t.left (recordings config files) lanes →
      IsStored (recordings config files) old (v.seen station) (v.leaves station) →
      HoldsSinceEntryOver v (recordings config files) (ends_of old.held) station
      station2 (ends_of new.held)
  -- Whatever bodies the store had, each image reads as these and more.
  pub appends : v.tells → (files : Files) (front : List PartsValue) →
      IsOn old front (v.seen station) (v.leaves station) →
      HoldsSinceOver v (beginning old.head front) (recordings config files) (ends_of old.held) station
      station2 (ends_of new.held)
  -- Each body is told before the next one is stored.
  pub paced : v.tells → (bodies : List PartsValue) → IsOn old bodies (v.seen station) (v.leaves station) →
      PacedOver v (name_of config) (window_of config) old.head bodies station station2 new (IsOk result)
  pub stored : v.tells → t.tells → (files : Files) → AreLanes t.tells t.left (recordings config files) lanes →
      IsStored (recordings config files) old (v.seen station) (v.leaves station) →
      OnOk result (IsStored (recordings config files) new (v.seen station2) (v.leaves station2))
  pub read : t.tells → (files : Files) → AreLanes t.tells t.left (recordings config files) lanes →
      OnOk result (AreLanes t.tells t.left (recordings config files) lanes2)
  pub lines : v.tells → t.tells → (files : Files) → AreLanes t.tells t.left (recordings config files) lanes →
      (n : List ℕ) (told : Lines) → HasTold config.block (recordings config files) n told (v.told station) lanes →
      OnOk result (All IsWhole lanes2 →
      HasTold config.block (recordings config files) n told (v.told station2) lanes2)
  pub ended : OnOk result (All HasEnded lanes2)
  pub there : v.tells → OnOk result (IsThere new (v.seen station2) (v.leaves station2))
  pub held : OnOk result (AreHeldTo (ends_of new.held) lanes2)
  pub sources : All HasSource lanes2
  pub faulty : All (IsFaulty t.faults) lanes2
  pub head : new.head ≡ old.head
  pub gauges : (length new.held ≡ length old.held) × (length lanes2 ≡ length lanes)
  pub cause : HasCause (v.faults station) (v.faults station2) result
