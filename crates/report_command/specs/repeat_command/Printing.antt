-- What `repeat` prints.
--   cycles_by       of each gauge's samples the cycles of their level history, as one that repeats
--   text_of_gauge   the text of a gauge
--   repeat_texts    the texts of all gauges, in order
--   Prints          what a command has written whose text they are
--   WritesRepeats   what `repeat` writes
--   AllHeldStand    the held segment of each gauge stands for its samples
use Rattle.std.specs.Prelude.{◌≡◌, ◌<◌, ◌++◌, ℕ, ℤ, List, length, slice_index_or}
use Rattle.outside.specs.Sink.{AppendsPrefix}
use Rattle.outside.specs.station.Station.{Image}
use Rattle.calibration.specs.History.{history}
use Rattle.repeating.specs.Repeating.{repeating_cycles}
use Rattle.report.specs.Lines.{lines_from}
use Rattle.report.specs.Repeat.{repeat_text}
use Rattle.segment.specs.Segment.{SegmentValue, Stands}
use Rattle.segment_store.specs.Holds.{Holds, gain_at, held_of}
use Rattle.site_config.specs.Valid.{name_of}
use Rattle.site_config.specs.declared.config.Config.{Config}
use Rattle.status.specs.declared.status.Status.{Status}
use Rattle.status.specs.declared.status.Status.TheVariants.{Done, WriteFault}

abbrev pub cycles_by : Config → (ℕ → List ℤ) → ℕ → ℕ → ℕ → ℕ
cycles_by c w g = repeating_cycles (history c.setup.grid (gain_at c.setup g) (w g))

abbrev pub text_of_gauge : Config → (ℕ → List ℤ) → ℕ → List ℕ
text_of_gauge c w g = repeat_text c.setup.grid (name_of c g) (cycles_by c w g)

abbrev pub repeat_texts : Config → (ℕ → List ℤ) → List ℕ
repeat_texts c w = lines_from (text_of_gauge c w) 0 (length c.gauges)

abbrev pub Prints : Status → Config → (ℕ → List ℤ) → List ℕ → List ℕ → Type 0
Prints Done c w old new = new ≡ old ++ repeat_texts c w
Prints WriteFault c w old new = AppendsPrefix old new (repeat_texts c w)
Prints status c w old new = new ≡ old

pub record WritesRepeats (c : Config) (seen : Image) (answer : Status) (old new : List ℕ) : Type 0 where
  -- Of the samples of which a read of the store holds the first so many, the cycles of each gauge's level history, as
  -- one that repeats, or a front of that text.
  pub prints : (w : ℕ → List ℤ) (n : List ℕ) → Holds c.setup w n seen → Prints answer c (held_of w n) old new

abbrev pub AllHeldStand : Config → List SegmentValue → (ℕ → List ℤ) → Type 0
AllHeldStand c held w =
    (g : ℕ) (v : SegmentValue) → g < length held → Stands (slice_index_or held g v) (gain_at c.setup g) (w g)
