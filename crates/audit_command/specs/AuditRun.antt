-- What a run of `audit` did.
use Rattle.std.specs.Prelude.{◌≡◌, ◌≢◌, ◌⊎◌, ℕ, ℤ, List, ◌∷◌, [], ◌++◌}
use Rattle.outside.specs.Fault.{CountRose}
use Rattle.segment_store.specs.Holds.{Holds, held_of}
use Rattle.site_config.specs.Configuration.{config_of_bytes}
use Rattle.site_config.specs.recorded.Recorded.{recordings}
use Rattle.site_config.specs.recorded.Asked.{names_in}
use Rattle.status.specs.declared.status.Status.{Status}
use Rattle.status.specs.declared.status.Status.TheVariants.{Done, Usage, ReadFault, WriteFault, DiskFault, OutOfMemory}
use Rattle.status.specs.Printing.{IsPrinting}
use Rattle.audit_command.specs.Answers.{AuditAnswers, IsSound}
use Rattle.audit_command.specs.Asked.{AuditAsks}
use Rattle.audit_command.specs.Audited.{FindsDifference, IsStanding}
use Rattle.audit_command.specs.Printing.{Prints}
use Rattle.status.specs.Shown.{Shown, ByConfig, Tells, line_for}

-- From what is shown before it to what is shown after it.
pub record AuditRuns (before after : Shown) (answer : Status) : Type 0 where
  -- Which answer it is, by what the bodies of each gauge keep and what its recording begins with.
  pub answer_is : before.station_tells → before.site_tells → before.config_tells →
      AuditAnswers (config_of_bytes before.config) before.seen before.files answer
  -- Where all is sound and no count of the outside rises, it is `Done`, or memory ran out.
  pub complete : before.station_tells → before.site_tells → before.config_tells →
      IsSound (config_of_bytes before.config) before.seen before.files →
      ¬ CountRose before.config_faults after.config_faults → ¬ CountRose before.site_faults after.site_faults →
      ¬ CountRose before.station_faults after.station_faults → ¬ CountRose before.output_faults after.output_faults →
      (answer ≡ Done) ⊎ (answer ≡ OutOfMemory)
  -- Where the bodies stand for samples, these are compared with what the recording begins with.
  pub stands : before.station_tells → before.site_tells → ByConfig before (λ c. (w : ℕ → List ℤ) (n : List ℕ) →
      Holds c.setup w n before.seen →
      FindsDifference c (IsStanding c (held_of w n)) (held_of (recordings c before.files).samples n) answer)
  -- With `Done` a line for each gauge is printed, with `WriteFault` a front of them.
  pub prints : before.output_tells → ByConfig before (λ c. Prints answer c before.written after.written)
  -- With any other answer nothing is printed.
  pub nothing : before.output_tells → ¬ IsPrinting answer → after.written ≡ before.written
  -- At most the line of the answer is told, and the store stays.
  pub quiet : before.station_tells → before.config_tells → Tells (line_for before answer) before after
  -- With `Done` no line is told.
  pub silent : before.station_tells → answer ≡ Done → after.told ≡ before.told
  -- The line of any other answer is told, unless the station's count rose.
  pub last : before.station_tells → before.config_tells → answer ≢ Done →
      CountRose before.station_faults after.station_faults ⊎ (after.told ≡ before.told ++ line_for before answer ∷ [])
  -- It is never `Usage`.
  pub named : answer ≢ Usage
  -- A read fault is answered only where the configuration's or the site's count of faults rose.
  pub read : answer ≡ ReadFault → CountRose before.config_faults after.config_faults ⊎
      CountRose before.site_faults after.site_faults
  -- Where a call of the site fails, or a source of it, the answer is a read fault.
  pub steady : answer ≢ ReadFault → after.site_faults ≡ before.site_faults
  -- A write fault is answered only where the output's count rose.
  pub write : answer ≡ WriteFault → CountRose before.output_faults after.output_faults
  -- A station fault is answered only where the station's count rose.
  pub disk : answer ≡ DiskFault → CountRose before.station_faults after.station_faults
  -- The gauges' files are asked for, gauge by gauge, and no other: none where the configuration or the store is
  -- refused, and none behind a recording that is refused.
  pub asked : before.config_tells →
      AuditAsks answer before.names_asked after.names_asked (names_in (config_of_bytes before.config))
