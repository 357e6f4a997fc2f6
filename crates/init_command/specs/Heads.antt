-- The heads of the recordings of a site.
--   HasHead        the recording of a gauge is there, and this is its head or what is wrong with it
--   AreHeads       these are the heads of all gauges, in order
--   AreSound       the recordings of the gauges below one are there, with a head
--   HasFault       the head of a gauge's recording is refused for this
--   HeadsAnswer    what reading them answers
--   IsHeadStatus   the answers that the head of a gauge may have; IsHeadsStatus: those of all
use Rattle.std.specs.Prelude.{◌≡◌, ◌<◌, ℕ, ⊤, List, length, slice_index_or, Option, Some, Result, Ok, Err}
use Rattle.std.specs.Option.{option_map_or}
use Rattle.outside.specs.Site.{Files}
use Rattle.recording.specs.Head.{recording_head}
use Rattle.recording.specs.declared.head.Head.{Head}
use Rattle.recording.specs.declared.head.HeadFault.{HeadFault}
use Rattle.site_config.specs.declared.config.Config.{Config}
use Rattle.site_config.specs.Valid.{file_of}
use Rattle.status.specs.declared.status.RecordingFault.{RecordingFault}
use Rattle.status.specs.RecordingFaults.{recording_fault_of}
use Rattle.status.specs.declared.status.Status.{Status}
use Rattle.status.specs.declared.status.Status.TheVariants.{Recording, ReadFault, OutOfMemory}

abbrev pub HasHeadIn : Option (List ℕ) → Result Head HeadFault → Type 0
HasHeadIn content r = (file : List ℕ) × (content ≡ Some file) × (recording_head file ≡ r)

abbrev pub HasHead : Config → Files → ℕ → Result Head HeadFault → Type 0
HasHead c files g r = HasHeadIn (files (file_of c g)) r

abbrev pub AreHeadsBelow : Config → Files → ℕ → List Head → Type 0
AreHeadsBelow c files k heads = (g : ℕ) (any : Head) → g < k → HasHead c files g (Ok (slice_index_or heads g any))

pub record AreHeads (c : Config) (files : Files) (heads : List Head) : Type 0 where
  pub each : AreHeadsBelow c files (length c.gauges) heads
  pub all : length heads ≡ length c.gauges

abbrev pub AreSound : Config → Files → ℕ → Type 0
AreSound c files k = (g : ℕ) → g < k → (h : Head) × HasHead c files g (Ok h)

-- what is answered for a gauge whose head has this fault
abbrev pub head_status : ℕ → HeadFault → Status
head_status g f = option_map_or (Recording g) (recording_fault_of f) ReadFault

abbrev pub HasFaultIn : Option (List ℕ) → ℕ → RecordingFault → Type 0
HasFaultIn content g fault = (f : HeadFault) × HasHeadIn content (Err f) × (head_status g f ≡ Recording g fault)

abbrev pub HasFault : Config → Files → ℕ → RecordingFault → Type 0
HasFault c files g fault = HasFaultIn (files (file_of c g)) g fault

-- of one gauge, whose file this is
abbrev pub HeadAnswer : Option (List ℕ) → ℕ → Result Head Status → Type 0
HeadAnswer content g (Ok h) = HasHeadIn content (Ok h)
HeadAnswer content g (Err (Recording gauge fault)) = (gauge ≡ g) × HasFaultIn content g fault
HeadAnswer content g (Err ReadFault) = ⊤
HeadAnswer content g (Err status) = ⊥

-- The first gauge whose head is refused is told.
abbrev pub HeadsAnswer : Config → Files → Result (List Head) Status → Type 0
HeadsAnswer c files (Ok heads) = AreHeads c files heads
HeadsAnswer c files (Err (Recording g fault)) = (g < length c.gauges) × AreSound c files g × HasFault c files g fault
HeadsAnswer c files (Err ReadFault) = ⊤
HeadsAnswer c files (Err OutOfMemory) = ⊤
HeadsAnswer c files (Err status) = ⊥

abbrev pub IsHeadStatus : ℕ → Status → Type 0
IsHeadStatus g (Recording gauge fault) = gauge ≡ g
IsHeadStatus g ReadFault = ⊤
IsHeadStatus g status = ⊥

abbrev pub IsHeadsStatus : Status → Type 0
IsHeadsStatus (Recording g fault) = ⊤
IsHeadsStatus ReadFault = ⊤
IsHeadsStatus OutOfMemory = ⊤
IsHeadsStatus status = ⊥
