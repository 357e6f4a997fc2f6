-- What a run of `init` did.
--   no_output        an output that shows nothing, since `init` is handed none
--   without_output   what is shown but for the output
--   IsEmpty          a crash at entry would leave no byte
--   InitRuns         what the run did
use Rattle.std.specs.Prelude.{◌≡◌, ◌≢◌, ◌<◌, ◌⊎◌, [], ◌∷◌, ◌++◌, length}
use Rattle.outside.specs.Fault.{CountRose}
use Rattle.outside.specs.declared.sink.Sink as sink
use Rattle.outside.specs.station.Station.{Image}
use Rattle.site_config.specs.Configuration.{config_of_bytes}
use Rattle.site_config.specs.recorded.Asked.{names_in}
use Rattle.status.specs.declared.status.Status.{Status}
use Rattle.status.specs.declared.status.Status.TheVariants.{Done, ReadFault, DiskFault, OutOfMemory}
use Rattle.init_command.specs.Asked.{InitAsks}
use Rattle.init_command.specs.Heads.{AreSound}
use Rattle.init_command.specs.Init.{init_line, InMaking, IsMade, InitAnswers, IsInit, IsUnmade}
use Rattle.status.specs.Shown.{Shown, ByConfig, AtEachMoment, Tells, Ends, line_for}

abbrev pub no_output : sink.Ghosts (Unit {0})
no_output = record { tells = ⊥; written = λ none. []; faults = λ none. 0 }

abbrev pub without_output : Shown → Shown
without_output shown = record shown { output_tells = ⊥; written = []; output_faults = 0 }

abbrev pub IsEmpty : Shown → Type 0
IsEmpty before = (image : Image) → before.leaves image → length image ≡ 0

-- From what is shown before it to what is shown after it.
pub record InitRuns (before after : Shown) (answer : Status) : Type 0 where
  -- With `Done` a crash leaves the new store and nothing else.
  pub made : before.station_tells → before.site_tells →
      ByConfig before (λ c. answer ≡ Done → IsMade c before.files after.seen after.leaves)
  -- With `Done` its line was told, and no other.
  pub told : before.station_tells → ByConfig before (λ c. answer ≡ Done →
      after.told ≡ before.told ++ init_line (length c.gauges) ∷ [])
  -- On an empty station, at each moment: until `init G` is told, what is there is too short for a head, or has no open
  -- ready byte, or is the new store; from then on it is the new store. Besides at most the line of the answer is told,
  -- as the last one.
  pub any_moment : before.station_tells → before.site_tells → ByConfig before (λ c. IsEmpty before →
      AtEachMoment before after (InMaking c before.files before.told (line_for before answer)))
  -- The end is such a moment: what was told by then, and what a read of the store gives.
  pub ended : before.station_tells → before.site_tells → ByConfig before (λ c. IsEmpty before →
      InMaking c before.files before.told (line_for before answer) after.told after.seen)
  -- Where it is refused, at most the line of the answer is told, and nothing else changes.
  pub unmade : before.station_tells → before.config_tells → IsUnmade answer →
      Tells (line_for before answer) before after
  -- So it is over a station that is not empty.
  pub quiet : before.station_tells → before.config_tells → 0 < length before.seen →
      Tells (line_for before answer) before after
  -- The line of any answer but `Done` is told last, unless the station's count rose.
  pub last : before.station_tells → before.config_tells → answer ≢ Done → Ends (line_for before answer) before after
  -- The answer is the first thing that is wrong; a fault of the outside and want of memory have no place in this order.
  pub answer_is : before.station_tells → before.site_tells → before.config_tells →
      InitAnswers (config_of_bytes before.config) before.files before.seen answer
  -- Where the configuration, all heads and the empty station are sound and no count of the outside rises, it is `Done`,
  -- or memory ran out.
  pub complete : before.station_tells → before.site_tells → ByConfig before (λ c.
      AreSound c before.files (length c.gauges) → length before.seen ≡ 0 →
      ¬ CountRose before.config_faults after.config_faults → ¬ CountRose before.site_faults after.site_faults →
      ¬ CountRose before.station_faults after.station_faults → (answer ≡ Done) ⊎ (answer ≡ OutOfMemory))
  -- No other answers are given than those of `init`.
  pub kind : IsInit answer
  -- A read fault is answered only where the configuration's or the site's count of faults rose.
  pub read : answer ≡ ReadFault → CountRose before.config_faults after.config_faults ⊎
      CountRose before.site_faults after.site_faults
  -- Where a call of the site fails, or a source of it, the answer is a read fault.
  pub steady : answer ≢ ReadFault → after.site_faults ≡ before.site_faults
  -- A station fault is answered only where the station's count rose.
  pub disk : answer ≡ DiskFault → CountRose before.station_faults after.station_faults
  -- The gauges' files are asked for, gauge by gauge, and no other: none where the configuration is refused, and none
  -- behind a recording that is refused.
  pub asked : before.config_tells →
      InitAsks answer before.names_asked after.names_asked (names_in (config_of_bytes before.config))
