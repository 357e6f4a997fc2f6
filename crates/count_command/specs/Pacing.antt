-- When a run of `count` or `watch` tells its lines: each body that it stores is acknowledged before the next one, and
-- by the end all of them are, unless the disk failed. The gauges and the length of a round are those of a
-- configuration, `first`, `front` and `ends` what the store read as at entry, `told` the lines and `leaves` the images
-- from then.
--   MayTellSeen   the answers behind lines of what was seen: in `watch`, where each recording ended soundly
--   WithSeen      all that was stored is acknowledged, and behind these lines stand some of what was seen
--   OrSeen        a moment of a kind, or such a one
--   PacedBy       a run over a store that was resumed, up to its answer's line
--   KeepsPace     a moment at which nothing was stored, or at most one body was and is not yet acknowledged
--   AllTold       a moment at which nothing was stored, or all that was is acknowledged
--   StoresInPace  a run whose moments are such, up to its answer's line
--   WithLast      a moment of a kind, or one with this line behind its lines
--   TellsInPace   a run and its answer's line
--   PacedByOver, StoresInPaceOver   the same over a station at entry and at the end
use Rattle.std.specs.Prelude.{◌≡◌, ◌≢◌, ◌⊎◌, ◌++◌, ℕ, List, [], ◌∷◌}
use Rattle.std.specs.List.{AllByRecursion}
use Rattle.outside.specs.declared.station.station.Station as station
use Rattle.outside.specs.station.Station.{Image, Lines, IsMoment, MomentsSince, Since}
use Rattle.segment.specs.segment_rules.Parts.{PartsValue}
use Rattle.store_bytes.specs.store_head.Head.{HeadValue}
use Rattle.segment_store.specs.Image.{Reads}
use Rattle.site_config.specs.declared.config.Config.{Config}
use Rattle.site_config.specs.Valid.{name_of}
use Rattle.status.specs.declared.status.Status.{Status}
use Rattle.status.specs.declared.status.Status.TheVariants.{Done, WriteFault, DiskFault}
use Rattle.count_command.specs.declared.course.Course.{Course}
use Rattle.count_command.specs.declared.course.Course.TheVariants.{Watch}
use Rattle.count_command.specs.held_samples.Going.{RunsBy}
use Rattle.count_command.specs.held_samples.Pace.{body_lines, Acknowledged, InPace, window_of}
use Rattle.count_command.specs.watching.Seen.{IsSeenLine}

abbrev pub MayTellSeen : Status → Course → Type 0
MayTellSeen Done Watch = Unit {0}
MayTellSeen WriteFault Watch = Unit {0}
MayTellSeen DiskFault Watch = Unit {0}
MayTellSeen answer course = ⊥

pub record WithSeen (config : Config) (first : HeadValue) (front : List PartsValue) (ends : List ℕ) (told lines : Lines)
    (c : Image) : Type 0 where
  pub more : List PartsValue
  pub seen : Lines
  pub held : List ℕ
  pub are : lines ≡ (told ++ body_lines (name_of config) more) ++ seen
  pub reads : Reads first (front ++ more) held c
  pub each : AllByRecursion (IsSeenLine config ends held) seen

abbrev pub OrSeen : Course → Status → Config → HeadValue → List PartsValue → List ℕ → Lines → IsMoment → IsMoment
OrSeen course answer config first front ends told P lines c =
    P lines c ⊎ (MayTellSeen answer course × WithSeen config first front ends told lines c)

abbrev pub InPaceBy : Course → Status → Config → HeadValue → List PartsValue → List ℕ → Lines → IsMoment
InPaceBy course answer config first front ends told =
    OrSeen course answer config first front ends told (InPace (name_of config) (window_of config) first front told)

abbrev pub ToldBy : Course → Status → Config → HeadValue → List PartsValue → List ℕ → Lines → IsMoment
ToldBy course answer config first front ends told =
    OrSeen course answer config first front ends told (Acknowledged (name_of config) first front told)

pub record PacedBy (course : Course) (answer : Status) (config : Config) (first : HeadValue) (front : List PartsValue)
    (ends : List ℕ) (start : ℕ) (past : MomentsSince) (told : Lines) (now : ℕ) (since : MomentsSince) (told2 : Lines)
    (leaves2 : Image → Type 0) : Type 0 where
  pub run : RunsBy (InPaceBy course answer config first front ends told) start past now since told2 leaves2
  pub level : answer ≢ DiskFault → (c : Image) → leaves2 c → ToldBy course answer config first front ends told told2 c

abbrev pub KeepsPace : Course → Status → Config → HeadValue → List PartsValue → List ℕ → Lines → (Image → Type 0) →
    IsMoment
KeepsPace course answer config first front ends told leaves lines c =
    ((lines ≡ told) × leaves c) ⊎ InPaceBy course answer config first front ends told lines c

abbrev pub AllTold : Course → Status → Config → HeadValue → List PartsValue → List ℕ → Lines → (Image → Type 0) →
    IsMoment
AllTold course answer config first front ends told leaves lines c =
    ((lines ≡ told) × leaves c) ⊎ ToldBy course answer config first front ends told lines c

-- start and past: the clock and the moments at entry; now, since, told2 and leaves2: what is there at the end
pub record StoresInPace (course : Course) (answer : Status) (config : Config) (first : HeadValue)
    (front : List PartsValue) (ends : List ℕ) (start : ℕ) (past : MomentsSince) (told : Lines) (leaves : Image → Type 0)
    (now : ℕ) (since : MomentsSince) (told2 : Lines) (leaves2 : Image → Type 0) : Type 0 where
  pub run : RunsBy (KeepsPace course answer config first front ends told leaves) start past now since told2 leaves2
  pub level : answer ≢ DiskFault → (c : Image) → leaves2 c →
      AllTold course answer config first front ends told leaves told2 c

abbrev pub PacedByOver : {K : Type 0} → station.Ghosts K → Course → Status → Config → HeadValue → List PartsValue →
    List ℕ → K → K → Type 0
PacedByOver v course answer config first front ends old new = PacedBy course answer config first front ends
    (v.clock old) (v.moments old) (v.told old) (v.clock new) (v.moments new) (v.told new) (v.leaves new)

abbrev pub StoresInPaceOver : {K : Type 0} → station.Ghosts K → Course → Status → Config → HeadValue →
    List PartsValue → List ℕ → K → K → Type 0
StoresInPaceOver v course answer config first front ends old new = StoresInPace course answer config first front ends
    (v.clock old) (v.moments old) (v.told old) (v.leaves old) (v.clock new) (v.moments new) (v.told new)
    (v.leaves new)

abbrev pub WithLast : List ℕ → IsMoment → IsMoment
WithLast line P lines c = P lines c ⊎ ((before : Lines) × (lines ≡ before ++ line ∷ []) × P before c)

pub record TellsInPace (course : Course) (answer : Status) (config : Config) (first : HeadValue)
    (front : List PartsValue) (ends : List ℕ) (line : List ℕ) (start : ℕ) (past : MomentsSince) (told : Lines)
    (leaves : Image → Type 0) (now : ℕ) (since : MomentsSince) (told2 : Lines) (leaves2 : Image → Type 0)
    : Type 0 where
  pub run : Since start past now since (WithLast line (KeepsPace course answer config first front ends told leaves))
  pub level : answer ≢ DiskFault → (c : Image) → leaves2 c →
      WithLast line (AllTold course answer config first front ends told leaves) told2 c
