-- What is told of what a watcher saw.
--   IsHeldNumber   how many were held of a gauge before the rounds, or after so many of them
--   AreSeenOf      numbers of a gauge that ascend, each such a one, up to all samples
--   seen_lines     the lines of the gauges below k, in order of gauge and number
--   AreSeen        the lines of all gauges
--   TellsSeen      what was told is these
--   IsSeenLine     a line of a gauge of the configuration and a number of samples that are held of it
--   BehindTold     lines of a kind and nothing else stand behind those that were told, and no image is new
--   TellsOnlySeen  a run that told lines of a kind and did nothing else
use Rattle.std.specs.Prelude.{◌≡◌, ◌<◌, ◌≤◌, ◌⊎◌, ℕ, zero, suc, List, [], ◌∷◌, ◌++◌, length, map, slice_index}
use Rattle.std.specs.List.{All, AllByRecursion}
use Rattle.std.specs.List.Sorted.{IsStrictlyIncreasing}
use Rattle.outside.specs.station.Station.{Image, Lines, NoNew}
use Rattle.outside.specs.declared.station.station.Station as station
use Rattle.segment_store.specs.Moments.{EachMoment}
use Rattle.site_config.specs.declared.config.Config.{Config}
use Rattle.site_config.specs.Valid.{name_of}
use Rattle.site_config.specs.recorded.Recorded.{Recorded}
use Rattle.count_command.specs.declared.watching.ends.TheConstants.{MOST_ENDS}
use Rattle.count_command.specs.held_samples.Pace.{window_of}
use Rattle.count_command.specs.held_samples.Told.{held_after, seen_line}
use Rattle.count_command.specs.watching.Steps.{IsSeenLineOf}

-- n were held before the rounds
abbrev pub IsHeldNumber : ℕ → Recorded → List ℕ → ℕ → ℕ → Type 0
IsHeldNumber block r n g m = (m ≡ slice_index n g) ⊎ ((rounds : ℕ) × (m ≡ held_after block r n rounds g))

pub record AreSeenOf (block : ℕ) (r : Recorded) (n : List ℕ) (g : ℕ) (ns : List ℕ) : Type 0 where
  pub ascend : IsStrictlyIncreasing ns
  pub each : All (IsHeldNumber block r n g) ns
  pub before : List ℕ
  pub last : ns ≡ before ++ length (r.samples g) ∷ []
  pub few : length ns ≤ MOST_ENDS

abbrev pub seen_lines : (ℕ → List ℕ) → (ℕ → List ℕ) → ℕ → Lines
seen_lines names ns zero = []
seen_lines names ns (suc k) = seen_lines names ns k ++ map (seen_line (names k)) (ns k)

pub record AreSeen (block : ℕ) (r : Recorded) (n : List ℕ) (lines : Lines) : Type 0 where
  pub ns : ℕ → List ℕ
  pub each : (g : ℕ) → g < r.gauges → AreSeenOf block r n g (ns g)
  pub are : lines ≡ seen_lines r.names ns r.gauges

pub record TellsSeen (block : ℕ) (r : Recorded) (n : List ℕ) (told told2 : Lines) : Type 0 where
  pub lines : Lines
  pub grew : told2 ≡ told ++ lines
  pub seen : AreSeen block r n lines

-- starts: how many were held of each gauge before the rounds; held: how many are. The number is that of what is held,
-- or of so many whole rounds.
pub record IsSeenLine (config : Config) (starts held : List ℕ) (line : List ℕ) : Type 0 where
  pub gauge : ℕ
  pub known : gauge < length config.gauges
  pub of : IsSeenLineOf (name_of config gauge) (slice_index starts gauge) (window_of config) (slice_index held gauge)
      line

pub record BehindTold (P : List ℕ → Type 0) (told : Lines) (leaves : Image → Type 0) (lines : Lines)
    (c : Image) : Type 0 where
  pub seen : Lines
  pub are : lines ≡ told ++ seen
  pub each : AllByRecursion P seen
  pub has : leaves c

-- over the station at entry and at the end
pub record TellsOnlySeen {K : Type 0} (v : station.Ghosts K) (P : List ℕ → Type 0) (station station2 : K)
    : Type 0 where
  pub run : EachMoment v station station2
      (BehindTold P (v.told station) (v.leaves station))
  pub new : Lines
  pub grew : v.told station2 ≡ v.told station ++ new
  pub each : AllByRecursion P new
  pub seen_same : v.seen station2 ≡ v.seen station
  pub none_new : NoNew (v.leaves station) (v.leaves station2)
