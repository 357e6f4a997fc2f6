-- A run of `demo` for which memory ran out before anything was printed.
use Rattle.std.proofs.Common.{◌≡◌, ℕ, List}
use Rattle.status.specs.declared.status.Status.TheVariants.{OutOfMemory}
use Rattle.demo_command.specs.DemoRun.{DemoRuns}

pub without_memory : (seed samples : ℕ) (tells : Type 0) (before after : List ℕ) (faults faults_after : ℕ) → after ≡ before
    → DemoRuns seed samples tells before after faults faults_after OutOfMemory
without_memory seed samples tells before after faults faults_after same = record {
  done = λ t no. absurd (cc);
  front = λ t no. absurd (cc);
  nothing = λ t n m. same;
  some = λ p. absurd p;
  kind = tt;
  write = λ no. absurd (cc);
}
