-- What `init` answers, and what it leaves.
--   init_line       the line that is told of a new store
--   IsNewStore      an image is the store that is to be made
--   IsBegun         what may be there before it is made
--   AddsAtMost      one line more was told, or none
--   InMaking        what was told and what is there at a moment of making it
--   IsMade          it is made, and a crash leaves nothing else
--   InitAnswers     what the command answers, by the configuration, the site and the store
--   IsInit          which answers there are
--   IsUnmade        which statuses leave the store as it was
use Rattle.std.specs.Prelude.{◌≡◌, ◌≢◌, ◌<◌, ◌⊎◌, ℕ, ⊤, List, [], ◌∷◌, ◌++◌, codes, length, slice_index, Result, Ok, Err}
use Rattle.std.specs.Fmt.{decimal}
use Rattle.outside.specs.Site.{Files}
use Rattle.outside.specs.station.Station.{Image, Lines, IsMoment, Only}
use Rattle.recording.specs.declared.head.Head.{Head}
use Rattle.site_config.specs.declared.config.Config.{Config}
use Rattle.site_config.specs.declared.fault.ConfigFault.{ConfigFault}
use Rattle.store_bytes.specs.declared.segment_bytes.layout.Layout.TheVariants.{Two}
use Rattle.store_bytes.specs.store_head.Head.{HeadValue, empty_store}
use Rattle.status.specs.declared.status.StoreFault.TheVariants.{NotEmpty}
use Rattle.status.specs.declared.status.Status.{Status}
use Rattle.status.specs.declared.status.Status.TheVariants.{Done, Config as BadConfig, Store, Recording, ReadFault, DiskFault, OutOfMemory}
use Rattle.init_command.specs.Heads.{AreHeads, AreSound, HasFault}
use Rattle.store_bytes.specs.declared.store_head.setup.TheConstants.{FRONT_LENGTH}

abbrev pub init_line : ℕ → List ℕ
init_line gauges = codes "init " ++ decimal gauges ++ codes "\n"

-- the head of a store of version 2
abbrev pub head_for : Config → List Head → HeadValue
head_for c heads = record { layout = Two; setup = c.setup; heads = heads }

-- the head of this setup and of the recordings, and no body
abbrev pub IsNewStore : Config → Files → Image → Type 0
IsNewStore c files image = (heads : List Head) × AreHeads c files heads × (image ≡ empty_store (head_for c heads))

-- too short for a head, without an open ready byte, or the new store
abbrev pub IsBegun : Config → Files → Image → Type 0
IsBegun c files image = (length image < FRONT_LENGTH) ⊎ ((slice_index image 0 ≢ 1) ⊎ IsNewStore c files image)

-- behind the lines that were told before, at most this one
abbrev pub AddsAtMost : List ℕ → Lines → Lines → Type 0
AddsAtMost line before lines = (lines ≡ before) ⊎ (lines ≡ before ++ line ∷ [])

-- By the lines from before and the line of the answer: until `init G` is told the store is begun, and from then on it
-- is the new one. The answer's line comes last, if at all.
abbrev pub InMaking : Config → Files → Lines → List ℕ → IsMoment
InMaking c files told last lines image =
    (AddsAtMost last told lines × IsBegun c files image)
    ⊎ (AddsAtMost last (told ++ init_line (length c.gauges) ∷ []) lines × IsNewStore c files image)

pub record IsMade (c : Config) (files : Files) (seen : Image) (leaves : Image → Type 0) : Type 0 where
  pub is : IsNewStore c files seen
  pub durable : Only seen leaves

-- by a configuration that is valid
abbrev pub AnswersBy : Config → Files → Image → Status → Type 0
AnswersBy c files image Done = AreSound c files (length c.gauges) × (length image ≡ 0)
AnswersBy c files image (Store (NotEmpty n)) = AreSound c files (length c.gauges) × (n ≡ length image) × (n ≢ 0)
AnswersBy c files image (Recording g fault) = (g < length c.gauges) × AreSound c files g × HasFault c files g fault
AnswersBy c files image ReadFault = ⊤
AnswersBy c files image DiskFault = ⊤
AnswersBy c files image OutOfMemory = ⊤
AnswersBy c files image status = ⊥

abbrev pub InitAnswers : Result Config ConfigFault → Files → Image → Status → Type 0
InitAnswers config files image (BadConfig fault) = config ≡ Err fault
-- a fault of the outside has a clause of its own, and want of memory none
InitAnswers config files image ReadFault = ⊤
InitAnswers config files image OutOfMemory = ⊤
InitAnswers config files image status = (c : Config) × (config ≡ Ok c) × AnswersBy c files image status

-- which answers there are
abbrev pub IsInit : Status → Type 0
IsInit Done = ⊤
IsInit (BadConfig fault) = ⊤
IsInit (Store (NotEmpty n)) = ⊤
IsInit (Recording g fault) = ⊤
IsInit ReadFault = ⊤
IsInit DiskFault = ⊤
IsInit OutOfMemory = ⊤
IsInit status = ⊥

-- nothing was written
abbrev pub IsUnmade : Status → Type 0
IsUnmade (BadConfig fault) = ⊤
IsUnmade (Store fault) = ⊤
IsUnmade (Recording g fault) = ⊤
IsUnmade ReadFault = ⊤
IsUnmade OutOfMemory = ⊤
IsUnmade status = ⊥
