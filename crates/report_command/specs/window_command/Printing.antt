-- What `window` prints.
--   window_at         the samples of a gauge that the window names: from the first start to the last end of the bodies
--                     that lie inside
--   samples_in        those samples
--   figures_in        their figures
--   AreWindowFigures  figures whose samples, pairs and ranges are what these bodies keep, and of as many samples as the
--                     window has
--   Prints            what a command has written whose text is the report of these windows and figures
--   PrintsWindow      of the samples that the bodies stand for
--   PrintsKept        of what the bodies keep
--   WritesWindow      what `window` writes
use Rattle.std.specs.Prelude.{◌≡◌, ◌<◌, ◌-◌, ◌++◌, ℕ, ℤ, List, drop, length, take, sum_by}
use Rattle.outside.specs.Sink.{AppendsPrefix}
use Rattle.outside.specs.station.Station.{Image}
use Rattle.recording.specs.declared.head.Head.{Head}
use Rattle.turning_points.specs.three_point.Sums.{sum_at_range}
use Rattle.segment.specs.segment_rules.Parts.{PartsValue}
use Rattle.store_bytes.specs.store_head.Head.{HeadValue}
use Rattle.segment_store.specs.Holds.{Holds, gain_at}
use Rattle.segment_store.specs.Image.{Reads}
use Rattle.segment_store.specs.Keeps.{kept_halves}
use Rattle.report.specs.Figures.{Figures, figures}
use Rattle.site_config.specs.declared.config.Config.{Config}
use Rattle.report_command.specs.site_report.Report.{IsWindowReport}
use Rattle.status.specs.declared.status.Status.{Status}
use Rattle.status.specs.declared.status.Status.TheVariants.{Done, WriteFault}
use Rattle.report_command.specs.windows.Window.{window_of}
use Rattle.report_command.specs.declared.window_counts.counting.Times.{Times}
use Rattle.report_command.specs.window_counts.Counted.{inside_bodies, period_of}

abbrev pub bodies_in : Times → List Head → List PartsValue → ℕ → List PartsValue
bodies_in t heads bodies g = inside_bodies t (period_of heads g) g bodies

abbrev pub window_at : Times → List Head → List PartsValue → ℕ → ℕ × ℕ
window_at t heads bodies g = window_of (bodies_in t heads bodies g)

abbrev pub samples_in : List ℤ → ℕ × ℕ → List ℤ
samples_in w window = take (window.1 - window.0) (drop window.0 w)

abbrev pub figures_in : Config → (ℕ → List ℤ) → (ℕ → ℕ × ℕ) → ℕ → Figures
figures_in c w windows g = figures c.setup.grid (gain_at c.setup g) (samples_in (w g) (windows g))

pub record AreWindowFigures (classes : ℕ) (window : ℕ × ℕ) (bodies : List PartsValue) (f : Figures) : Type 0 where
  pub samples : f.samples.samples ≡ window.1 - window.0
  pub used : f.samples.used ≡ sum_by (λ b. b.used) bodies
  pub missing : f.samples.missing ≡ sum_by (λ b. b.missing) bodies
  pub refused : f.samples.refused ≡ sum_by (λ b. b.refused) bodies
  pub pairs : (lo hi : ℕ) → f.pairs lo hi ≡ kept_halves bodies lo hi
  pub half_units : (k : ℕ) → f.half_units k ≡ sum_at_range (kept_halves bodies) k (classes - k)

abbrev pub Prints : Status → Config → (ℕ → ℕ × ℕ) → (ℕ → Figures) → List ℕ → List ℕ → Type 0
Prints Done c windows figures old new =
    (text : List ℕ) × IsWindowReport c windows figures text × (new ≡ old ++ text)
Prints WriteFault c windows figures old new =
    (text : List ℕ) × IsWindowReport c windows figures text × AppendsPrefix old new text
Prints status c windows figures old new = new ≡ old

-- the windows of all gauges
abbrev pub AreWindows : Config → Times → List Head → List PartsValue → (ℕ → ℕ × ℕ) → Type 0
AreWindows c t heads bodies windows = (g : ℕ) → g < length c.gauges → windows g ≡ window_at t heads bodies g

abbrev pub PrintsWindow : Status → Config → Times → List Head → List PartsValue → (ℕ → List ℤ) → List ℕ → List ℕ → Type
    0
PrintsWindow status c t heads bodies w old new = (windows : ℕ → ℕ × ℕ) × AreWindows c t heads bodies windows
    × Prints status c windows (figures_in c w windows) old new

abbrev pub PrintsKept : Status → Config → Times → List Head → List PartsValue → List ℕ → List ℕ → Type 0
PrintsKept status c t heads bodies old new = (windows : ℕ → ℕ × ℕ) × AreWindows c t heads bodies windows
    × ((figures : ℕ → Figures) × ((g : ℕ) → g < length c.gauges
    → AreWindowFigures c.setup.grid.classes (windows g) (bodies_in t heads bodies g) (figures g))
    × Prints status c windows figures old new)

-- The instants are nanoseconds.
pub record WritesWindow (times : Times) (c : Config) (seen : Image) (answer : Status) (old new : List ℕ) : Type 0 where
  -- Of samples of which a read of the store holds the first so many: for each gauge the line of its window, and the
  -- text of the samples that it names.
  pub prints : (w : ℕ → List ℤ) (n : List ℕ) → (h : Holds c.setup w n seen) →
      PrintsWindow answer c times h.head.heads h.bodies w old new
  -- Whatever the bodies stand for: the samples, the pairs and the ranges are what those that lie inside keep.
  pub kept : (head : HeadValue) (bodies : List PartsValue) (ends : List ℕ) → head.setup ≡ c.setup →
      Reads head bodies ends seen → PrintsKept answer c times head.heads bodies old new
