-- What rounds over lanes that were opened did, from their entry to their end.
--   OpenedRuns  what they did, by the course of the run
use Rattle.std.specs.Prelude.{◌≡◌, ◌≤◌, List, length}
use Rattle.std.specs.List.{All}
use Rattle.outside.specs.Fault.{CountRose}
use Rattle.outside.specs.Site.{Files}
use Rattle.outside.specs.declared.source.Source as source
use Rattle.outside.specs.declared.sink.Sink as sink
use Rattle.outside.specs.declared.station.station.Station as station
use Rattle.segment.specs.segment_rules.Parts.{PartsValue}
use Rattle.count_workers.specs.declared.lane_loans.lane.Lane.{Lane}
use Rattle.segment_store.specs.Held.{ends_of}
use Rattle.segment_store.specs.Moments.{StoreValue, IsOn}
use Rattle.segment_store.specs.Quiet.{StaysQuiet}
use Rattle.site_config.specs.declared.config.Config.{Config}
use Rattle.site_config.specs.recorded.Recorded.{recordings}
use Rattle.site_lanes.specs.Lanes.{AreLanes, HasSource, IsFaulty, HasNotFailed}
use Rattle.status.specs.declared.status.Status.{Status}
use Rattle.status.specs.declared.status.Status.TheVariants.{ReadFault, WriteFault, DiskFault}
use Rattle.status.specs.Printing.{IsPrinting}
use Rattle.count_command.specs.declared.course.Course.{Course}
use Rattle.count_command.specs.held_samples.Kept.{beginning}
use Rattle.count_command.specs.held_samples.Going.{IsStored, HoldsSinceOver, HoldsSinceEntryOver}
use Rattle.count_command.specs.Acknowledging.{AreShort, WhereCounted, TellsAll}
use Rattle.count_command.specs.Answer.{EndAnswers, IsEnding}
use Rattle.count_command.specs.Holding.{HoldLimited, HeldAt, HeldCut, LeavesStore, QuietOr}
use Rattle.count_command.specs.Pacing.{PacedByOver}
use Rattle.count_command.specs.Printed.{Prints}

pub record OpenedRuns {C K O : Type 0} (course : Course) (t : source.Ghosts C) (v : station.Ghosts K)
    (p : sink.Ghosts O) (config : Config) (store store2 : StoreValue) (lanes lanes2 : List (Lane C))
    (station station2 : K) (out out2 : O) (answer : Status) : Type 0 where
  -- Every moment is kept, whatever it answers.
  pub going : v.tells → t.tells → (files : Files) → AreLanes t.tells t.left (recordings config files) lanes →
      IsStored (recordings config files) store (v.seen station) (v.leaves station) →
      HoldsSinceEntryOver v (recordings config files) (ends_of store.held) station station2
      (ends_of store2.held)
  -- Whatever bodies the store had, each image reads as these and more.
  pub appends : v.tells → (files : Files) (front : List PartsValue) →
      IsOn store front (v.seen station) (v.leaves station) →
      HoldsSinceOver v (beginning store.head front) (recordings config files) (ends_of store.held) station
      station2 (ends_of store2.held)
  -- Each body is told before the next one is stored.
  pub paced : v.tells → (front : List PartsValue) → IsOn store front (v.seen station) (v.leaves station) →
      PacedByOver v course answer config store.head front (ends_of store.held) station station2
  -- What is held at the end.
  pub ended : v.tells → t.tells → (files : Files) → AreLanes t.tells t.left (recordings config files) lanes →
      IsStored (recordings config files) store (v.seen station) (v.leaves station) →
      HeldAt answer (recordings config files) (v.leaves station2)
  -- Where a recording is torn or too long and no source failed.
  pub cut : v.tells → t.tells → (files : Files) → AreLanes t.tells t.left (recordings config files) lanes →
      IsStored (recordings config files) store (v.seen station) (v.leaves station) → All HasNotFailed lanes2 →
      HeldCut answer (recordings config files) (v.leaves station2)
  -- Where memory ran out and no source failed.
  pub memory : v.tells → t.tells → (files : Files) → AreLanes t.tells t.left (recordings config files) lanes →
      IsStored (recordings config files) store (v.seen station) (v.leaves station) → All HasNotFailed lanes2 →
      QuietOr answer course (StaysQuiet v station station2) (HoldLimited (recordings config files) (v.leaves station2))
  -- What is told.
  pub acknowledged : v.tells → t.tells → (files : Files) →
      AreLanes t.tells t.left (recordings config files) lanes →
      WhereCounted answer (All HasNotFailed lanes2 × AreShort (recordings config files))
      (TellsAll course answer config.block (recordings config files) (ends_of store.held) (v.told station)
      (v.told station2))
  -- What is printed.
  pub prints : p.tells → v.tells → t.tells → (files : Files) →
      AreLanes t.tells t.left (recordings config files) lanes →
      IsStored (recordings config files) store (v.seen station) (v.leaves station) →
      Prints answer config (recordings config files).samples (p.written out) (p.written out2)
  pub nothing : p.tells → ¬ IsPrinting answer → p.written out2 ≡ p.written out
  -- Which answer it is.
  pub answer_is : t.tells → (files : Files) → AreLanes t.tells t.left (recordings config files) lanes →
      EndAnswers config files answer
  pub kind : IsEnding answer
  -- After these answers nothing was stored.
  pub quiet : v.tells → LeavesStore course answer → StaysQuiet v station station2
  -- A fault of the outside has its cause.
  pub read : answer ≡ ReadFault → ¬ All HasNotFailed lanes2
  pub write : answer ≡ WriteFault → CountRose (p.faults out) (p.faults out2)
  pub disk : answer ≡ DiskFault → CountRose (v.faults station) (v.faults station2)
  pub later : v.faults station ≤ v.faults station2
  -- The lanes have their sources.
  pub sources : All HasSource lanes2
  pub faulty : All (IsFaulty t.faults) lanes2
  pub count : length lanes2 ≡ length lanes
