-- What may be answered for a file.
--   refusal_of       why a recording is refused whose head has this fault
--   refused_status   what a refused recording is answered with
--   answer_for       a gauge's answer where nothing outside fails and memory lasts
--   MayAnswer        what may be answered, whatever fails
--   MayGive          what a reader of a recording may give
--   IsAnswer         what may be answered where nothing outside fails
use Rattle.std.specs.Prelude.{◌≡◌, ◌≢◌, ◌⊎◌, ℕ, ⊤, Result, MatchResult}
use Rattle.std.specs.Option.{option_map_or}
use Rattle.recording.specs.declared.head.HeadFault.{HeadFault}
use Rattle.file_commands.specs.declared.file_tasks.refusal.Refusal.{Refusal}
use Rattle.file_commands.specs.declared.file_tasks.refusal.Refusal.TheVariants as refusal
use Rattle.file_commands.specs.file_tasks.FileState.{FileState, NoFile, Sound, BadHead, TornEnd, TooManySamples}
use Rattle.status.specs.Printing.{IsPrinting}
use Rattle.status.specs.RecordingFaults.{recording_fault_of}
use Rattle.status.specs.declared.status.Status.{Status}
use Rattle.status.specs.declared.status.Status.TheVariants.{Done, Usage, Recording, Torn, ReadFault, WriteFault, OutOfMemory, TooLong}

abbrev pub refusal_of : HeadFault → Refusal
refusal_of fault = option_map_or refusal.Head (recording_fault_of fault) refusal.ReadFault

-- of the gauge of this number
abbrev pub refused_status : ℕ → Refusal → Status
refused_status gauge (refusal.Head fault) = Recording gauge fault
refused_status gauge (refusal.Torn bytes) = Torn gauge bytes
refused_status gauge refusal.TooLong = TooLong gauge
refused_status gauge refusal.ReadFault = ReadFault
refused_status gauge refusal.OutOfMemory = OutOfMemory

-- of the gauge of this number
abbrev pub answer_for : ℕ → FileState → Status
answer_for gauge NoFile = ReadFault
answer_for gauge Sound = Done
answer_for gauge (BadHead fault) = refused_status gauge (refusal_of fault)
answer_for gauge (TornEnd bytes) = Torn gauge bytes
answer_for gauge TooManySamples = TooLong gauge

-- A fault of the outside may come at any time, memory may run out over each file, and only a sound one is printed.
abbrev pub MayAnswer : ℕ → Status → FileState → Type 0
MayAnswer gauge Usage state = ⊥
MayAnswer gauge ReadFault state = ⊤
MayAnswer gauge OutOfMemory state = state ≢ NoFile
MayAnswer gauge WriteFault state = state ≡ Sound
MayAnswer gauge answer state = answer ≡ answer_for gauge state

-- there is such a file, and unless memory runs out the answer is its own
abbrev pub IsAnswer : ℕ → Status → FileState → Type 0
IsAnswer gauge answer state = (state ≢ NoFile) × ((answer ≡ answer_for gauge state) ⊎ (answer ≡ OutOfMemory))

-- what a reader of a recording may give, of a file in this state
abbrev pub MayGive : {T : Type 0} → ℕ → Result T Refusal → FileState → Type 0
MayGive gauge result state =
    MatchResult result (λ read. state ≡ Sound) (λ refusal. MayAnswer gauge (refused_status gauge refusal) state)

-- what printing a sound recording ends with, whose memory is taken then
abbrev pub IsPrintingOrNoMemory : Status → Type 0
IsPrintingOrNoMemory OutOfMemory = ⊤
IsPrintingOrNoMemory answer = IsPrinting answer
