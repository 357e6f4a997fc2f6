-- What a run of a command over the store alone did.
--   Writing        what a command writes, by the configuration, what a read of the store gives, the answer, and what
--                  was written before and after
--   store_shown    what the configuration, the station and the output show, and no site
--   without_site   the same, of all that is shown
--   StoreRuns      what it wrote, that it told its answer's line at most, and that its answer has its cause
--   IsUntold       the same by a configuration, before anything is told
use Rattle.std.specs.Prelude.{◌≡◌, ◌≢◌, ◌≤◌, ◌⊎◌, ◌++◌, ℕ, List, [], ◌∷◌, None}
use Rattle.outside.specs.Fault.{CountRose}
use Rattle.outside.specs.declared.source.Source as source
use Rattle.outside.specs.declared.site.Site as site
use Rattle.outside.specs.declared.sink.Sink as sink
use Rattle.outside.specs.station.Station.{Image}
use Rattle.outside.specs.declared.station.station.Station as station
use Rattle.segment_store.specs.Image.{IsStoreOf}
use Rattle.segment_store.specs.Quiet.{StaysQuiet}
use Rattle.site_config.specs.Configuration.{config_of_bytes}
use Rattle.site_config.specs.declared.config.Config.{Config}
use Rattle.status.specs.fault_lines.FaultLine.{fault_line}
use Rattle.status.specs.declared.status.Status.{Status}
use Rattle.status.specs.declared.status.Status.TheVariants.{Done, ReadFault, WriteFault, DiskFault, OutOfMemory}
use Rattle.status.specs.Printing.{IsPrinting, IsReporting}
use Rattle.status.specs.Shown.{Shown, ByConfig, shown_by, Tells}
use Rattle.report_command.specs.Answers.{IsSound, ReportAnswers, MayAnswerOver}

abbrev pub Writing : Type 1
Writing = Config → Image → Status → List ℕ → List ℕ → Type 0

abbrev no_site : site.Ghosts (Unit {0}) (Unit {0})
no_site =
    record { tells = ⊥; files = λ s name. None; names_asked = λ s names. ⊥; out = λ s. 0; faults = λ s. 0 }

abbrev pub store_shown : {C K O : Type 0} → source.Ghosts C → station.Ghosts K → sink.Ghosts O → C → K → O → Shown
store_shown t v p c k o = shown_by t no_site v p c tt k o

abbrev pub without_site : Shown → Shown
without_site shown =
    record shown { site_tells = ⊥; site_faults = 0; files = λ name. None; names_asked = λ names. ⊥; out = 0 }

pub record StoreRuns (Writes : Writing) (before after : Shown) (answer : Status) : Type 0 where
  -- With `Done` and `WriteFault` it wrote what it has to, over what a read of the store gives.
  pub writes : before.output_tells → before.station_tells →
      ByConfig before (λ c. IsPrinting answer → Writes c before.seen answer before.written after.written)
  -- With any other answer nothing is written.
  pub nothing : before.output_tells → ¬ IsPrinting answer → after.written ≡ before.written
  -- At most the line of the answer is told, and the store stays.
  pub quiet : before.station_tells → Tells (fault_line answer []) before after
  -- With `Done` no line is told.
  pub silent : before.station_tells → answer ≡ Done → after.told ≡ before.told
  -- The line of any other answer is told, unless the station's count rose.
  pub last : before.station_tells → answer ≢ Done → CountRose before.station_faults after.station_faults ⊎
      (after.told ≡ before.told ++ fault_line answer [] ∷ [])
  -- The answer is the first thing that is wrong; a fault of the outside and want of memory have no place in this order.
  pub answer_is : before.station_tells → before.config_tells →
      ReportAnswers (config_of_bytes before.config) before.seen answer
  -- Where all is sound and no count of the outside rises, it is `Done`, or memory ran out.
  pub complete : before.station_tells → before.config_tells → IsSound (config_of_bytes before.config) before.seen →
      ¬ CountRose before.config_faults after.config_faults → ¬ CountRose before.station_faults after.station_faults →
      ¬ CountRose before.output_faults after.output_faults → (answer ≡ Done) ⊎ (answer ≡ OutOfMemory)
  -- No other answers are given than those of a report.
  pub kind : IsReporting answer
  -- A read fault is answered only where the configuration's count of faults rose.
  pub read : answer ≡ ReadFault → CountRose before.config_faults after.config_faults
  -- A write fault is answered only where the output's count rose.
  pub write : answer ≡ WriteFault → CountRose before.output_faults after.output_faults
  -- A station fault is answered only where the station's count rose.
  pub disk : answer ≡ DiskFault → CountRose before.station_faults after.station_faults

pub record IsUntold {K O : Type 0} (Writes : Writing) (v : station.Ghosts K) (p : sink.Ghosts O) (c : Config)
    (station station2 : K) (out out2 : O) (answer : Status) : Type 0 where
  pub writes : p.tells → v.tells → IsPrinting answer → Writes c (v.seen station) answer (p.written out) (p.written out2)
  pub nothing : p.tells → ¬ IsPrinting answer → p.written out2 ≡ p.written out
  pub quiet : v.tells → StaysQuiet v station station2
  pub later : v.faults station ≤ v.faults station2
  pub answer_is : v.tells → MayAnswerOver c (v.seen station) answer
  pub complete : v.tells → IsStoreOf c.setup (v.seen station) → ¬ CountRose (v.faults station) (v.faults station2) →
      ¬ CountRose (p.faults out) (p.faults out2) → (answer ≡ Done) ⊎ (answer ≡ OutOfMemory)
  pub kind : IsReporting answer
  pub no_read : answer ≢ ReadFault
  pub write : answer ≡ WriteFault → CountRose (p.faults out) (p.faults out2)
  pub disk : answer ≡ DiskFault → CountRose (v.faults station) (v.faults station2)
