-- What a run of `count` or of `watch` did.
--   WhereHeld  by the configuration c, where each image at entry holds at least a samples of the recordings r
--   CountRuns  all of it
use Rattle.std.specs.Prelude.{◌≡◌, ◌≢◌, ◌⊎◌, ℕ, List, length, Ok}
use Rattle.outside.specs.Fault.{CountRose}
use Rattle.outside.specs.Site.{Files}
use Rattle.outside.specs.station.Station.{Image, Lines}
use Rattle.segment.specs.segment_rules.Parts.{PartsValue}
use Rattle.store_bytes.specs.store_head.Head.{HeadValue}
use Rattle.segment_store.specs.Image.{Reads}
use Rattle.segment_store.specs.Holds.{Holds}
use Rattle.site_config.specs.Configuration.{config_of_bytes}
use Rattle.site_config.specs.declared.config.Config.{Config}
use Rattle.site_config.specs.recorded.Recorded.{Recorded, recordings}
use Rattle.site_config.specs.recorded.Asked.{names_in}
use Rattle.count_command.specs.held_samples.Going.{AllHold, KeepsTold}
use Rattle.site_lanes.specs.Answers.{HeadsFit, AllSound}
use Rattle.status.specs.declared.status.Status.{Status}
use Rattle.status.specs.declared.status.RecordingFault.{RecordingFault}
use Rattle.status.specs.declared.status.Status.TheVariants.{Done, Usage, Recording, ReadFault, WriteFault, DiskFault, OutOfMemory}
use Rattle.status.specs.Printing.{IsPrinting}
use Rattle.count_command.specs.declared.course.Course.{Course}
use Rattle.count_command.specs.Acknowledging.{AreShort, AcknowledgesBy}
use Rattle.count_command.specs.Appending.{HasGrown, TellsTruly}
use Rattle.count_command.specs.Pacing.{TellsInPace}
use Rattle.count_command.specs.Holding.{HoldLimited, HeldAt, HeldCut, LeavesStore, QuietOr}
use Rattle.count_command.specs.Answer.{OpensAll, CountAnswers}
use Rattle.count_command.specs.Asked.{CountAsks}
use Rattle.count_command.specs.Printed.{Prints}
use Rattle.status.specs.fault_lines.FaultLine.{fault_line}
use Rattle.status.specs.Shown.{Shown, ByConfig, AtEachMoment, Tells, Ends, line_for}

abbrev pub WhereHeld : Shown → (Config → Recorded → List ℕ → Type 0) → Type 0
WhereHeld before P = before.station_tells → before.site_tells → ByConfig before (λ c. (a : List ℕ) →
    AllHold (recordings c before.files) a before.leaves → P c (recordings c before.files) a)

-- By its course, from what is shown before it to what is shown after it.
pub record CountRuns (course : Course) (before after : Shown) (answer : Status) : Type 0 where
  -- Every moment of the run holds at least what was acknowledged before, and what was told in it up to that moment.
  pub every_moment : WhereHeld before (λ c r a. (lines : Lines) (image : Image) →
      after.moments before.clock lines image → KeepsTold r a before.told lines image)
  -- Whatever head and bodies a read at entry gave, each image since is one of entry, or reads as these and more.
  pub appends : before.station_tells → (first : HeadValue) (front : List PartsValue) (ends : List ℕ) →
      Reads first front ends before.seen → AtEachMoment before after (HasGrown first front before.leaves)
  -- No line of the run acknowledges more than the bodies have then.
  pub truly : before.station_tells → ByConfig before (λ c. (files : Files) (first : HeadValue)
      (front : List PartsValue) (ends : List ℕ) → Reads first front ends before.seen →
      AtEachMoment before after (TellsTruly (recordings c files) first front before.told before.leaves))
  -- A line is told for each body that is stored, before the next one is, and by the end for all of them, unless the
  -- disk fails. In `watch`, where the report follows or the disk fails, lines of what was seen may stand behind these,
  -- of the gauges and of samples that are held. Then comes at most the answer's line.
  pub paced : before.station_tells → ByConfig before (λ c. (first : HeadValue) (front : List PartsValue)
      (ends : List ℕ) → Reads first front ends before.seen →
      TellsInPace course answer c first front ends (line_for before answer) before.clock before.moments before.told
      before.leaves after.clock after.moments after.told after.leaves)
  -- At a good end all samples are held.
  pub ended : WhereHeld before (λ c r a. HeldAt answer r after.leaves)
  -- Where a recording is torn or too long and no source failed, as many are held as a recording may have.
  pub cut : WhereHeld before (λ c r a.
      ¬ CountRose before.site_faults after.site_faults → HeldCut answer r after.leaves)
  -- Where memory ran out in `watch` and no source failed, nothing was stored, or so many are held: a segment that can't
  -- be shown doesn't stop the storing.
  pub memory : WhereHeld before (λ c r a. ¬ CountRose before.site_faults after.site_faults →
      QuietOr answer course ((name : List ℕ) × Tells (fault_line answer name) before after)
      (HoldLimited r after.leaves))
  -- With `Done` the report of all samples is printed, with `WriteFault` a front of it.
  pub prints : before.output_tells →
      WhereHeld before (λ c r a. Prints answer c r.samples before.written after.written)
  -- With any other answer nothing is printed.
  pub nothing : before.output_tells → ¬ IsPrinting answer → after.written ≡ before.written
  -- Where each recording was read to its end, the lines of all rounds were told, and in `watch`, where no recording is
  -- torn, then those of what was seen: with `Done` no other, else behind them at most the answer's line.
  pub acknowledged : before.station_tells → before.site_tells → ByConfig before (λ c. (n : List ℕ) →
      Holds c.setup (recordings c before.files).samples n before.seen →
      AcknowledgesBy course answer
      (¬ CountRose before.site_faults after.site_faults × AreShort (recordings c before.files))
      c.block (recordings c before.files) n before.told (line_for before answer) after.told)
  -- The answer is the first thing that is wrong; a fault of the outside and want of memory have no place in this order.
  pub answer_is : before.station_tells → before.site_tells → before.config_tells →
      CountAnswers (config_of_bytes before.config) before.seen before.files answer
  -- Where the store and all recordings are sound and no count of the outside rises, it is `Done`, or memory ran out.
  pub complete : before.station_tells → before.site_tells → ByConfig before (λ c. (n : List ℕ)
      (h : Holds c.setup (recordings c before.files).samples n before.seen) → HeadsFit c h.head.heads before.files →
      AllSound c before.files (length c.gauges) →
      ¬ CountRose before.config_faults after.config_faults → ¬ CountRose before.site_faults after.site_faults →
      ¬ CountRose before.station_faults after.station_faults → ¬ CountRose before.output_faults after.output_faults →
      (answer ≡ Done) ⊎ (answer ≡ OutOfMemory))
  -- Where it is refused, or memory ran out in `count`, at most the line of the answer is told, and nothing else
  -- changes.
  pub quiet : before.station_tells → LeavesStore course answer →
      (name : List ℕ) × Tells (fault_line answer name) before after
  -- So it is with any answer, unless the configuration is valid, the store was made for it, and each recording can be
  -- opened.
  pub opens : before.station_tells → before.site_tells → before.config_tells →
      ((name : List ℕ) × Tells (fault_line answer name) before after)
      ⊎ ((c : Config) × (config_of_bytes before.config ≡ Ok c) × OpensAll c before.seen before.files)
  -- It is never `Usage`.
  pub named : answer ≢ Usage
  -- A recording is refused only where no call of the site and of its sources failed.
  pub refused : (gauge : ℕ) (fault : RecordingFault) → answer ≡ Recording gauge fault →
      after.site_faults ≡ before.site_faults
  -- A read fault is answered only where the configuration's or the site's count of faults rose.
  pub read : answer ≡ ReadFault → CountRose before.config_faults after.config_faults ⊎
      CountRose before.site_faults after.site_faults
  -- A write fault is answered only where the output's count rose.
  pub write : answer ≡ WriteFault → CountRose before.output_faults after.output_faults
  -- A station fault is answered only where the station's count rose.
  pub disk : answer ≡ DiskFault → CountRose before.station_faults after.station_faults
  -- The gauges' files are asked for, gauge by gauge, and no other: none where the configuration or the store is
  -- refused, and none behind a recording that is refused.
  pub asked : before.config_tells →
      CountAsks answer before.names_asked after.names_asked (names_in (config_of_bytes before.config))
  -- The line of any answer but `Done` is told last, unless the station's count rose.
  pub last : before.station_tells → before.config_tells → answer ≢ Done → Ends (line_for before answer) before after
