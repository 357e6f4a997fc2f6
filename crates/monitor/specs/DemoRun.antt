-- What a run of `demo` did, and told.
use Rattle.std.specs.Prelude.{ℕ, []}
use Rattle.outside.specs.Site.{AsksNothing}
use Rattle.status.specs.declared.status.Status.{Status}
use Rattle.status.specs.Shown.{Shown, TellsAnswer}
use Rattle.demo_command.specs.DemoRun.{DemoRuns}

-- With this seed and so many samples.
pub record ToldDemoRuns (seed samples : ℕ) (same_config : Type 0) (before after : Shown) (answer : Status)
    : Type 0 where
  -- What it printed and answered.
  pub run : DemoRuns seed samples before.output_tells before.written after.written before.output_faults
      after.output_faults answer
  -- No file is asked for.
  pub asked : AsksNothing before.names_asked after.names_asked
  -- The line of the answer alone is told.
  pub tells : TellsAnswer [] before after answer
  -- The configuration is left as it is.
  pub unread : same_config
