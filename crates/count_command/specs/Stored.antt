-- What a run did before its answer's line, by its course.
--   StoredRuns      over a store that was resumed
--   ConfiguredRuns  by a configuration
use Rattle.std.specs.Prelude.{◌≡◌, ◌≤◌, ◌⊎◌, ℕ, List, length, slice_index}
use Rattle.std.specs.List.{All}
use Rattle.outside.specs.Fault.{CountRose}
use Rattle.outside.specs.Site.{Files}
use Rattle.outside.specs.declared.site.Site as site
use Rattle.outside.specs.declared.sink.Sink as sink
use Rattle.outside.specs.declared.station.station.Station as station
use Rattle.segment.specs.segment_rules.Parts.{PartsValue}
use Rattle.count_workers.specs.declared.lane_loans.lane.Lane.{Lane}
use Rattle.store_bytes.specs.store_head.Head.{HeadValue}
use Rattle.segment_store.specs.Held.{ends_of}
use Rattle.segment_store.specs.Holds.{Holds}
use Rattle.segment_store.specs.Image.{Reads}
use Rattle.segment_store.specs.Moments.{StoreValue, IsOn}
use Rattle.segment_store.specs.Quiet.{StaysQuiet}
use Rattle.site_config.specs.declared.config.Config.{Config}
use Rattle.site_config.specs.recorded.Recorded.{recordings}
use Rattle.site_config.specs.recorded.Asked.{file_names}
use Rattle.site_lanes.specs.Answers.{HeadsFit, AllOpened, AllSound}
use Rattle.site_lanes.specs.Lanes.{HasNotFailed}
use Rattle.status.specs.declared.status.RecordingFault.{RecordingFault}
use Rattle.status.specs.declared.status.Status.{Status}
use Rattle.status.specs.declared.status.Status.TheVariants.{Recording, ReadFault, WriteFault, DiskFault}
use Rattle.status.specs.Printing.{IsPrinting}
use Rattle.count_command.specs.declared.course.Course.{Course}
use Rattle.count_command.specs.held_samples.Kept.{beginning}
use Rattle.count_command.specs.held_samples.Going.{AllHold, IsStored, HoldsSinceOver, HoldsSinceEntryOver, RunsByOver, SafeOver}
use Rattle.count_command.specs.Acknowledging.{AreShort, WhereCounted, TellsAll}
use Rattle.count_command.specs.Answer.{RunAnswers, OpensAll, MayAnswerOver, IsRunning, IsCounting, IsComplete}
use Rattle.count_command.specs.Appending.{TellsTruly}
use Rattle.count_command.specs.Asked.{CountAsks}
use Rattle.count_command.specs.Holding.{HoldLimited, HeldAt, HeldCut, LeavesStore, QuietOr}
use Rattle.count_command.specs.Pacing.{PacedByOver, StoresInPaceOver}
use Rattle.count_command.specs.Printed.{Prints}

pub record StoredRuns {S Src K O : Type 0} (course : Course) (t : site.Ghosts S Src) (v : station.Ghosts K)
    (p : sink.Ghosts O) (config : Config) (store store2 : StoreValue) (lanes2 : List (Lane Src)) (site site2 : S)
    (station station2 : K) (out out2 : O) (answer : Status) : Type 0 where
  -- Every moment is kept, whatever it answers.
  pub going : v.tells → t.tells →
      IsStored (recordings config (t.files site)) store (v.seen station) (v.leaves station) →
      HoldsSinceEntryOver v (recordings config (t.files site)) (ends_of store.held) station station2
      (ends_of store2.held)
  -- Whatever bodies the store had, each image reads as these and more.
  pub appends : v.tells → (files : Files) (front : List PartsValue) →
      IsOn store front (v.seen station) (v.leaves station) →
      HoldsSinceOver v (beginning store.head front) (recordings config files) (ends_of store.held) station
      station2 (ends_of store2.held)
  -- Each body is told before the next one is stored.
  pub paced : v.tells → (front : List PartsValue) → IsOn store front (v.seen station) (v.leaves station) →
      PacedByOver v course answer config store.head front (ends_of store.held) station station2
  -- What is held at the end.
  pub ended : v.tells → t.tells →
      IsStored (recordings config (t.files site)) store (v.seen station) (v.leaves station) →
      HeldAt answer (recordings config (t.files site)) (v.leaves station2)
  pub cut : v.tells → t.tells →
      IsStored (recordings config (t.files site)) store (v.seen station) (v.leaves station) →
      All HasNotFailed lanes2 → HeldCut answer (recordings config (t.files site)) (v.leaves station2)
  pub memory : v.tells → t.tells →
      IsStored (recordings config (t.files site)) store (v.seen station) (v.leaves station) →
      All HasNotFailed lanes2 → QuietOr answer course (StaysQuiet v station station2)
      (HoldLimited (recordings config (t.files site)) (v.leaves station2))
  -- What is told and printed.
  pub acknowledged : v.tells → t.tells → WhereCounted answer
      (All HasNotFailed lanes2 × AreShort (recordings config (t.files site)))
      (TellsAll course answer config.block (recordings config (t.files site)) (ends_of store.held) (v.told station)
      (v.told station2))
  pub prints : p.tells → v.tells → t.tells →
      IsStored (recordings config (t.files site)) store (v.seen station) (v.leaves station) →
      Prints answer config (recordings config (t.files site)).samples (p.written out) (p.written out2)
  pub nothing : p.tells → ¬ IsPrinting answer → p.written out2 ≡ p.written out
  -- Which answer it is.
  pub answer_is : t.tells →
      RunAnswers config store.head.heads (slice_index (ends_of store.held)) (t.files site) answer
  pub kind : IsRunning answer
  pub quiet : v.tells → LeavesStore course answer → StaysQuiet v station station2
  pub opens : v.tells → t.tells → StaysQuiet v station station2
      ⊎ AllOpened config store.head.heads (slice_index (ends_of store.held)) (t.files site) (length config.gauges)
  pub read : answer ≡ ReadFault → All HasNotFailed lanes2 → CountRose (t.faults site) (t.faults site2)
  pub write : answer ≡ WriteFault → CountRose (p.faults out) (p.faults out2)
  pub disk : answer ≡ DiskFault → CountRose (v.faults station) (v.faults station2)
  pub asked : CountAsks answer (t.names_asked site) (t.names_asked site2) (file_names config)

pub record ConfiguredRuns {S Src K O : Type 0} (course : Course) (t : site.Ghosts S Src) (v : station.Ghosts K)
    (p : sink.Ghosts O) (config : Config) (site site2 : S) (station station2 : K) (out out2 : O)
    (answer : Status) : Type 0 where
  -- Every moment is kept, whatever it answers.
  pub safe : v.tells → t.tells → (a : List ℕ) → AllHold (recordings config (t.files site)) a (v.leaves station) →
      SafeOver v (recordings config (t.files site)) a station station2
  -- Whatever was stored at entry, each moment has it, and more, and acknowledges no more.
  pub appends : v.tells → (files : Files) (first : HeadValue) (front : List PartsValue) (ends : List ℕ) →
      Reads first front ends (v.seen station) →
      RunsByOver v (TellsTruly (recordings config files) first front (v.told station) (v.leaves station)) station
      station2
  -- A line is told for each body that is stored, before the next one is.
  pub paced : v.tells → (first : HeadValue) (front : List PartsValue) (ends : List ℕ) →
      Reads first front ends (v.seen station) →
      StoresInPaceOver v course answer config first front ends station station2
  -- What is held at the end.
  pub ended : v.tells → t.tells → (a : List ℕ) → AllHold (recordings config (t.files site)) a (v.leaves station) →
      HeldAt answer (recordings config (t.files site)) (v.leaves station2)
  pub cut : v.tells → t.tells → (a : List ℕ) → AllHold (recordings config (t.files site)) a (v.leaves station) →
      ¬ CountRose (t.faults site) (t.faults site2) →
      HeldCut answer (recordings config (t.files site)) (v.leaves station2)
  pub memory : v.tells → t.tells → (a : List ℕ) → AllHold (recordings config (t.files site)) a (v.leaves station) →
      ¬ CountRose (t.faults site) (t.faults site2) → QuietOr answer course (StaysQuiet v station station2)
      (HoldLimited (recordings config (t.files site)) (v.leaves station2))
  -- What is told and printed.
  pub acknowledged : v.tells → t.tells → (n : List ℕ) →
      Holds config.setup (recordings config (t.files site)).samples n (v.seen station) → WhereCounted answer
      (¬ CountRose (t.faults site) (t.faults site2) × AreShort (recordings config (t.files site)))
      (TellsAll course answer config.block (recordings config (t.files site)) n (v.told station) (v.told station2))
  pub prints : p.tells → v.tells → t.tells → (a : List ℕ) →
      AllHold (recordings config (t.files site)) a (v.leaves station) →
      Prints answer config (recordings config (t.files site)).samples (p.written out) (p.written out2)
  pub nothing : p.tells → ¬ IsPrinting answer → p.written out2 ≡ p.written out
  -- Which answer it is.
  pub answer_is : v.tells → t.tells → MayAnswerOver config (v.seen station) (t.files site) answer
  -- Over a sound store and sound recordings there is no refusal.
  pub complete : v.tells → t.tells → (n : List ℕ)
      (h : Holds config.setup (recordings config (t.files site)).samples n (v.seen station)) →
      HeadsFit config h.head.heads (t.files site) → AllSound config (t.files site) (length config.gauges) →
      IsComplete answer
  pub kind : IsCounting answer
  -- A recording is refused only where no call of the site and of its sources failed.
  pub refused : (gauge : ℕ) (fault : RecordingFault) → answer ≡ Recording gauge fault →
      t.faults site2 ≡ t.faults site
  pub quiet : v.tells → LeavesStore course answer → StaysQuiet v station station2
  pub opens : v.tells → t.tells → StaysQuiet v station station2 ⊎ OpensAll config (v.seen station) (t.files site)
  pub read : answer ≡ ReadFault → CountRose (t.faults site) (t.faults site2)
  pub write : answer ≡ WriteFault → CountRose (p.faults out) (p.faults out2)
  pub disk : answer ≡ DiskFault → CountRose (v.faults station) (v.faults station2)
  pub later : v.faults station ≤ v.faults station2
  pub asked : CountAsks answer (t.names_asked site) (t.names_asked site2) (file_names config)
