-- What is wrong with a recording before it is counted, and where its source stands once it is opened.
--   head_fault       the first thing wrong with its head, where the store was made for a recording with that one
--   fault_of         the first thing wrong with it, where so many samples are held of it
--   IsOpeningAnswer  what opening it answers
--   IsBehind         the source stands behind what is held
use Rattle.std.specs.Prelude.{◌≡◌, ◌≤◌, ℕ, nat_lt, nat_eq, ◌==◌, not, if◌then◌else◌, List, length, drop, Option, Some, None, Result, Ok, Err}
use Rattle.std.specs.Cmp.Lexicographic.{pointwise}
use Rattle.std.specs.Option.{option_map_or}
use Rattle.recording.specs.Samples.{samples, torn_bytes}
use Rattle.recording.specs.Head.{recording_head}
use Rattle.recording.specs.declared.head.Head.{Head}
use Rattle.recording.specs.declared.head.HeadFault.{HeadFault}
use Rattle.site_config.specs.recorded.Recorded.{body_in}
use Rattle.status.specs.RecordingFaults.{recording_fault_of}
use Rattle.status.specs.declared.status.RecordingFault.{RecordingFault}
use Rattle.status.specs.declared.status.RecordingFault.TheVariants.{Id, Period, Fewer}
use Rattle.status.specs.declared.status.Status.{Status}
use Rattle.status.specs.declared.status.Status.TheVariants as status
use Rattle.site_lanes.specs.declared.opening.OpenFault.{OpenFault}
use Rattle.site_lanes.specs.declared.opening.OpenFault.TheVariants.{Recording, ReadFault}

-- None where the head is sound, and its id and period are those that are kept. No bytes have a read fault.
abbrev pub head_fault : Result Head HeadFault → Head → Option RecordingFault
head_fault (Err fault) kept = recording_fault_of fault
head_fault (Ok found) kept =
    if not (pointwise nat_eq found.id kept.id) then Some (Id kept.id found.id)
    else if not (found.period_us == kept.period_us) then Some (Period kept.period_us found.period_us)
    else None

-- where the head has this fault, so many samples are held, and so many are there
abbrev pub fault_by : Option RecordingFault → ℕ → ℕ → Option RecordingFault
fault_by (Some fault) held there = Some fault
fault_by None held there = if nat_lt there held then Some (Fewer held there) else None

abbrev pub fault_of : Head → ℕ → List ℕ → Option RecordingFault
fault_of kept held file = fault_by (head_fault (recording_head file) kept) held (length (samples (body_in (Some file))))

abbrev pub open_fault : HeadFault → OpenFault
open_fault fault = option_map_or Recording (recording_fault_of fault) ReadFault

-- a recording is refused for its first fault, and is opened only where it has none
abbrev pub IsOpeningAnswer : Option RecordingFault → Result (Unit {0}) OpenFault → Type 0
IsOpeningAnswer first (Ok u) = first ≡ None
IsOpeningAnswer first (Err (Recording fault)) = first ≡ Some fault
IsOpeningAnswer first (Err ReadFault) = Unit {0}

-- so many samples of a body are behind a source
pub record IsBehind (n : ℕ) (body left : List ℕ) : Type 0 where
  pub there : n ≤ length (samples body)
  pub samples_left : samples left ≡ drop n (samples body)
  pub torn_left : torn_bytes left ≡ torn_bytes body

-- the answer for the gauge of this number
abbrev pub opened_status : ℕ → OpenFault → Status
opened_status gauge (Recording fault) = status.Recording gauge fault
opened_status gauge ReadFault = status.ReadFault
