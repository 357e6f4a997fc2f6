-- Which answer `audit` has. Each has its cause in the configuration, the store and the recordings; a fault of the
-- outside has a clause of its own, and want of memory none.
--   HeldAnswers    over a store that holds so many samples of each gauge
--   MayAnswerOver  over what a read of the store gives
--   AuditAnswers   by the configuration
--   IsSound        the configuration is sound, the store is one of its setup, and the recordings begin with what it
--                  holds
use Rattle.std.specs.Prelude.{◌≡◌, ◌<◌, ℕ, List, length, slice_index, Some, Result, Ok, Err}
use Rattle.outside.specs.Site.{Files}
use Rattle.outside.specs.station.Station.{Image}
use Rattle.recording.specs.declared.head.Head.{Head}
use Rattle.site_config.specs.declared.config.Config.{Config}
use Rattle.site_config.specs.declared.fault.ConfigFault.{ConfigFault}
use Rattle.site_config.specs.recorded.Recorded.{recordings}
use Rattle.site_lanes.specs.Answers.{AllOpened, FaultOf}
use Rattle.status.specs.declared.status.Status.{Status}
use Rattle.status.specs.declared.status.Status.TheVariants.{Done, Config as BadConfig, Store as BadStore, Recording, ReadFault, WriteFault, DiskFault, OutOfMemory, Differs}
use Rattle.status.specs.Refused.{IsRefusedAs}
use Rattle.segment_store.specs.Holds.{held_of}
use Rattle.segment_store.specs.Image.{IsStoreOf}
use Rattle.audit_command.specs.Audited.{SegmentChoice, HasKept, AllSame, FindsDifference}

-- nothing is wrong with any recording, and the comparison finds this
abbrev pub CountedAnswers : Config → List Head → SegmentChoice → List ℕ → Files → Status → Type 0
CountedAnswers c heads meant ends files status = AllOpened c heads (slice_index ends) files (length c.gauges)
    × FindsDifference c meant (held_of (recordings c files).samples ends) status

abbrev pub HeldAnswers : Config → List Head → SegmentChoice → List ℕ → Files → Status → Type 0
HeldAnswers c heads meant ends files (Recording g fault) =
    (g < length c.gauges) × AllOpened c heads (slice_index ends) files g
    × FaultOf c heads (slice_index ends) files g (Some fault)
HeldAnswers c heads meant ends files ReadFault = Unit {0}
HeldAnswers c heads meant ends files OutOfMemory = Unit {0}
HeldAnswers c heads meant ends files Done = CountedAnswers c heads meant ends files Done
HeldAnswers c heads meant ends files WriteFault = CountedAnswers c heads meant ends files WriteFault
HeldAnswers c heads meant ends files (Differs g what held found) =
    CountedAnswers c heads meant ends files (Differs g what held found)
HeldAnswers c heads meant ends files status = ⊥

abbrev pub MayAnswerOver : Config → Image → Files → Status → Type 0
MayAnswerOver c image files (BadStore fault) = IsRefusedAs c.setup image fault
MayAnswerOver c image files DiskFault = Unit {0}
MayAnswerOver c image files OutOfMemory = Unit {0}
MayAnswerOver c image files status =
    (r : IsStoreOf c.setup image) × HeldAnswers c r.head.heads (HasKept r.bodies) r.ends files status

abbrev pub AuditAnswers : Result Config ConfigFault → Image → Files → Status → Type 0
AuditAnswers config image files (BadConfig fault) = config ≡ Err fault
AuditAnswers config image files ReadFault = Unit {0}
AuditAnswers config image files OutOfMemory = Unit {0}
AuditAnswers config image files status = (c : Config) × (config ≡ Ok c) × MayAnswerOver c image files status

-- the recordings begin with samples that were counted as it holds
abbrev pub IsAudited : Config → Image → Files → Type 0
IsAudited c image files =
    (r : IsStoreOf c.setup image) × AllOpened c r.head.heads (slice_index r.ends) files (length c.gauges)
    × AllSame c (HasKept r.bodies) (held_of (recordings c files).samples r.ends) (length c.gauges)

abbrev pub IsSound : Result Config ConfigFault → Image → Files → Type 0
IsSound config image files = (c : Config) × (config ≡ Ok c) × IsAudited c image files

-- the answers of auditing a store
abbrev pub IsAuditing : Status → Type 0
IsAuditing Done = Unit {0}
IsAuditing (Recording g fault) = Unit {0}
IsAuditing ReadFault = Unit {0}
IsAuditing WriteFault = Unit {0}
IsAuditing OutOfMemory = Unit {0}
IsAuditing (Differs g what held found) = Unit {0}
IsAuditing status = ⊥
