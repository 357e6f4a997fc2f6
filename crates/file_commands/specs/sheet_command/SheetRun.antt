-- What a run of `sheet` did.
use Rattle.std.specs.Prelude.{◌≡◌, ◌≢◌, ◌⊎◌}
use Rattle.outside.specs.Fault.{CountRose}
use Rattle.site_config.specs.Configuration.{config_of_bytes}
use Rattle.site_config.specs.recorded.Asked.{names_in}
use Rattle.status.specs.declared.status.Status.{Status}
use Rattle.status.specs.declared.status.Status.TheVariants.{Done, Usage, ReadFault, WriteFault, OutOfMemory}
use Rattle.file_commands.specs.sheet_command.Sheet.{sheet_of, sheet_answer, MayAnswer, Prints, SheetAsks}
use Rattle.status.specs.Shown.{Shown, ByConfig, Tells, Ends, line_for}

-- From what is shown before it to what is shown after it.
pub record SheetRuns (before after : Shown) (answer : Status) : Type 0 where
  -- The samples of the recordings under the names of their gauges are printed, a front of that text, or nothing.
  pub prints : before.output_tells → before.site_tells →
      ByConfig before (λ c. Prints answer (sheet_of c before.files) before.written after.written)
  -- With any answer but `Done` and `WriteFault` nothing is printed.
  pub nothing : before.output_tells → answer ≢ Done → answer ≢ WriteFault → after.written ≡ before.written
  -- At most the line of the answer is told, and the store stays.
  pub quiet : before.station_tells → before.config_tells → Tells (line_for before answer) before after
  -- With `Done` no line is told.
  pub silent : before.station_tells → answer ≡ Done → after.told ≡ before.told
  -- The line of any other answer is told last, unless the station's count rose.
  pub last : before.station_tells → before.config_tells → answer ≢ Done → Ends (line_for before answer) before after
  -- It is never `Usage`.
  pub named : answer ≢ Usage
  -- The answer is the first thing that is wrong, a read fault or a write fault, or memory ran out.
  pub answer_is : before.site_tells → before.config_tells →
      MayAnswer (sheet_answer (config_of_bytes before.config) before.files) answer
  -- Where no count of the outside rises, it is the configuration's and the files' own, or memory ran out.
  pub complete : before.site_tells → before.config_tells → ¬ CountRose before.config_faults after.config_faults →
      ¬ CountRose before.site_faults after.site_faults → ¬ CountRose before.output_faults after.output_faults →
      (answer ≡ sheet_answer (config_of_bytes before.config) before.files) ⊎ (answer ≡ OutOfMemory)
  -- A read fault is answered only where the configuration's or the site's count of faults rose.
  pub read : answer ≡ ReadFault → CountRose before.config_faults after.config_faults ⊎
      CountRose before.site_faults after.site_faults
  -- Where a call of the site fails, or a source of it, the answer is a read fault.
  pub steady : answer ≢ ReadFault → after.site_faults ≡ before.site_faults
  -- A write fault is answered only where the output's count rose.
  pub write : answer ≡ WriteFault → CountRose before.output_faults after.output_faults
  -- The gauges' files are asked for, gauge by gauge, and no other: none where the configuration is refused, and none
  -- behind a recording that is refused.
  pub asked : before.config_tells →
      SheetAsks answer before.names_asked after.names_asked (names_in (config_of_bytes before.config))
