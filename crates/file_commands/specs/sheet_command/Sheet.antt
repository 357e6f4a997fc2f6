-- What `sheet` prints of the recordings of a site, and what it answers.
--   recordings_of   the samples of all recordings, by gauge, and none where there is no file
--   sheet_of        the text of all recordings, under the names of their gauges
--   states_of       what the files are to the reader of recordings, by gauge
--   sheet_answer    the answer where nothing outside fails and memory lasts
--   MayAnswer       what may be answered, whatever fails
--   Prints          what is written, by the answer
--   IsOfGauge       the answer is this gauge's, where a recording is refused
--   SheetAsks       which files are asked for, by the answer
use Rattle.std.specs.Prelude.{◌≡◌, ◌<◌, ⊤, ℕ, ℤ, ◌+◌, List, [], ◌∷◌, ◌++◌, length, map, take, Result, Ok, Err}
use Rattle.outside.specs.Site.{Files, Asked, Asks, AsksNothing}
use Rattle.outside.specs.Sink.{AppendsPrefix}
use Rattle.recording.specs.Samples.{samples}
use Rattle.csv_recording.specs.Sheet.{sheet_text}
use Rattle.file_commands.specs.file_tasks.FileState.{FileState, NoFile, Sound, BadHead, TornEnd, TooManySamples, file_state}
use Rattle.file_commands.specs.file_tasks.Answer.{answer_for}
use Rattle.site_config.specs.Configuration.{gauge_names}
use Rattle.site_config.specs.declared.config.Config.{Config}
use Rattle.site_config.specs.declared.config.Gauge.{Gauge}
use Rattle.site_config.specs.declared.fault.ConfigFault.{ConfigFault}
use Rattle.site_config.specs.recorded.Asked.{AsksFirst}
use Rattle.site_config.specs.recorded.Recorded.{body_in}
use Rattle.status.specs.declared.status.Status.{Status}
use Rattle.status.specs.declared.status.Status.TheVariants.{Done, Usage, Config as BadConfig, Recording, Torn, ReadFault, WriteFault, OutOfMemory, TooLong}

abbrev pub recordings_of : List Gauge → Files → List (List ℤ)
recordings_of gauges files = map (λ (gauge : Gauge). samples (body_in (files gauge.file))) gauges

abbrev pub sheet_of : Config → Files → List ℕ
sheet_of c files = sheet_text (gauge_names c.gauges) (recordings_of c.gauges files)

abbrev pub states_of : List Gauge → Files → List FileState
states_of gauges files = map (λ (gauge : Gauge). file_state (files gauge.file)) gauges

-- The first recording that is not sound decides, of gauges from this one on.
unfoldable pub answer_from : ℕ → List FileState → Status
answer_from gauge [] = Done
answer_from gauge (Sound ∷ states) = answer_from (gauge + 1) states
answer_from gauge (NoFile ∷ states) = answer_for gauge NoFile
answer_from gauge (BadHead fault ∷ states) = answer_for gauge (BadHead fault)
answer_from gauge (TornEnd bytes ∷ states) = answer_for gauge (TornEnd bytes)
answer_from gauge (TooManySamples ∷ states) = answer_for gauge TooManySamples

abbrev pub answer_over : Config → Files → Status
answer_over c files = answer_from 0 (states_of c.gauges files)

abbrev pub sheet_answer : Result Config ConfigFault → Files → Status
sheet_answer (Err fault) files = BadConfig fault
sheet_answer (Ok c) files = answer_over c files

-- A fault of the outside may come at any time, and memory may run out; only sound recordings are printed.
abbrev pub MayAnswer : Status → Status → Type 0
MayAnswer asked Usage = ⊥
MayAnswer asked ReadFault = ⊤
MayAnswer asked OutOfMemory = ⊤
MayAnswer asked WriteFault = asked ≡ Done
MayAnswer asked answer = answer ≡ asked

-- how the reading of recordings may be refused
abbrev pub IsReadStatus : Status → Type 0
IsReadStatus (Recording gauge fault) = ⊤
IsReadStatus (Torn gauge bytes) = ⊤
IsReadStatus (TooLong gauge) = ⊤
IsReadStatus ReadFault = ⊤
IsReadStatus OutOfMemory = ⊤
IsReadStatus status = ⊥

abbrev pub Prints : Status → List ℕ → List ℕ → List ℕ → Type 0
Prints Done text old new = new ≡ old ++ text
Prints WriteFault text old new = AppendsPrefix old new text
Prints answer text old new = new ≡ old

abbrev pub IsOfGauge : ℕ → Status → Type 0
IsOfGauge g (Recording h fault) = h ≡ g
IsOfGauge g (Torn h bytes) = h ≡ g
IsOfGauge g (TooLong h) = h ≡ g
IsOfGauge g status = ⊤

-- up to this gauge
abbrev pub AsksUpTo : ℕ → Asked → Asked → List (List ℕ) → Type 0
AsksUpTo g before after names = (g < length names) × Asks before after (take (g + 1) names)

-- None where the configuration is refused, up to the gauge whose recording is refused, and all where they were printed.
-- Where a read fails or memory runs out it is some first ones.
abbrev pub SheetAsks : Status → Asked → Asked → List (List ℕ) → Type 0
SheetAsks (BadConfig fault) before after names = AsksNothing before after
SheetAsks (Recording g fault) before after names = AsksUpTo g before after names
SheetAsks (Torn g bytes) before after names = AsksUpTo g before after names
SheetAsks (TooLong g) before after names = AsksUpTo g before after names
SheetAsks ReadFault before after names = AsksFirst before after names
SheetAsks OutOfMemory before after names = AsksFirst before after names
SheetAsks status before after names = Asks before after names
