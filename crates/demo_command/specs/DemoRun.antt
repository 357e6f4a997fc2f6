-- What a run of `demo` did, by what its output shows.
use Rattle.std.specs.Prelude.{◌≡◌, ◌≢◌, ◌++◌, ℕ, List}
use Rattle.outside.specs.Fault.{CountRose}
use Rattle.outside.specs.Sink.{AppendsPrefix}
use Rattle.status.specs.declared.status.Status.{Status}
use Rattle.status.specs.declared.status.Status.TheVariants.{Done, WriteFault}
use Rattle.status.specs.Printing.{IsPrinting}
use Rattle.demo_command.specs.Answer.{IsDemoAnswer}
use Rattle.demo_command.specs.Summary.{IsSummary}

-- With this seed and so many samples: whether the output tells, what is written before and after, and the counts of
-- faults.
pub record DemoRuns (seed samples : ℕ) (tells : Type 0) (before after : List ℕ) (faults faults_after : ℕ)
    (answer : Status) : Type 0 where
  -- With `Done` the summary of the recordings that the seed makes is printed.
  pub done : tells → answer ≡ Done → (text : List ℕ) → IsSummary seed samples text → after ≡ before ++ text
  -- With `WriteFault` a front of it is.
  pub front : tells → answer ≡ WriteFault → (text : List ℕ) → IsSummary seed samples text →
      AppendsPrefix before after text
  -- With any other answer nothing is.
  pub nothing : tells → answer ≢ Done → answer ≢ WriteFault → after ≡ before
  -- There is such a summary.
  pub some : IsPrinting answer → (text : List ℕ) × IsSummary seed samples text
  -- The answer is `Done`, `WriteFault` or `OutOfMemory`.
  pub kind : IsDemoAnswer answer
  -- A write fault is answered only where the output's count rose.
  pub write : answer ≡ WriteFault → CountRose faults faults_after
