-- What the opening of all recordings answers, and how they end. A recording is that of a gauge of a configuration,
-- among the files of a site; the store was made for recordings with the heads `heads`, and holds `held` samples of
-- each.
--   FaultOf       the first thing wrong with the recording of a gauge, which is there
--   HeadsFit      nothing is wrong with any head
--   AllOpened     nothing is wrong with the recordings of the gauges below this one
--   OpenAnswers   what the opening of all of them answers
--   end_of        how a recording ends: the answer for its gauge, or None at a sound end
--   AllSound      so do those of the gauges below this one
use Rattle.std.specs.Prelude.{◌≡◌, ◌<◌, ℕ, nat_lt, ◌==◌, if◌then◌else◌, List, length, slice_index_or, Option, Some, None, Result, Ok, Err}
use Rattle.outside.specs.Site.{Files}
use Rattle.recording.specs.Samples.{samples, torn_bytes}
use Rattle.recording.specs.Head.{recording_head}
use Rattle.calibration.specs.declared.limits.TheConstants.{MAX_SAMPLES}
use Rattle.recording.specs.declared.head.Head.{Head}
use Rattle.site_config.specs.declared.config.Config.{Config}
use Rattle.site_config.specs.Valid.{file_of}
use Rattle.site_config.specs.recorded.Recorded.{body_in}
use Rattle.status.specs.declared.status.RecordingFault.{RecordingFault}
use Rattle.status.specs.declared.status.Status.{Status}
use Rattle.status.specs.declared.status.Status.TheVariants.{Recording, Torn, ReadFault, TooLong}
use Rattle.site_lanes.specs.Opening.{head_fault, fault_of}

abbrev pub FaultOf : Config → List Head → (ℕ → ℕ) → Files → ℕ → Option RecordingFault → Type 0
FaultOf c heads held files g fault = (file : List ℕ) × (files (file_of c g) ≡ Some file)
    × ((d : Head) → fault_of (slice_index_or heads g d) (held g) file ≡ fault)

abbrev pub HeadsFit : Config → List Head → Files → Type 0
HeadsFit c heads files = (g : ℕ) → g < length c.gauges → (file : List ℕ) × (files (file_of c g) ≡ Some file)
    × ((d : Head) → head_fault (recording_head file) (slice_index_or heads g d) ≡ None)

abbrev pub AllOpened : Config → List Head → (ℕ → ℕ) → Files → ℕ → Type 0
AllOpened c heads held files k = (g : ℕ) → g < k → FaultOf c heads held files g None

-- The fault is that of the lowest gauge that has one. A read fault has no cause in what the files are.
abbrev pub OpenAnswers : Config → List Head → (ℕ → ℕ) → Files → Result (Unit {0}) Status → Type 0
OpenAnswers c heads held files (Ok u) = AllOpened c heads held files (length c.gauges)
OpenAnswers c heads held files (Err (Recording g fault)) = (g < length c.gauges) × AllOpened c heads held files g
    × FaultOf c heads held files g (Some fault)
OpenAnswers c heads held files (Err status) = Unit {0}

-- for one gauge
abbrev pub GaugeAnswers : {A : Type 0} → Config → List Head → (ℕ → ℕ) → Files → ℕ → Result A Status → Type 0
GaugeAnswers c heads held files g (Ok lane) = FaultOf c heads held files g None
GaugeAnswers c heads held files g (Err (Recording h fault)) = (h ≡ g) × FaultOf c heads held files g (Some fault)
GaugeAnswers c heads held files g (Err status) = Unit {0}

-- the answers that the opening of recordings may have
abbrev pub IsOpening : Status → Type 0
IsOpening (Recording g fault) = Unit {0}
IsOpening ReadFault = Unit {0}
IsOpening status = ⊥

-- too many samples come before a torn end
abbrev pub end_of : ℕ → List ℕ → Option Status
end_of g body =
    if nat_lt MAX_SAMPLES (length (samples body)) then Some (TooLong g)
    else if torn_bytes body == 0 then None
    else Some (Torn g (torn_bytes body))

abbrev pub AllSound : Config → Files → ℕ → Type 0
AllSound c files k = (g : ℕ) → g < k → end_of g (body_in (files (file_of c g))) ≡ None
