-- What is left where memory ran out while the words were read.
--   answer_without_memory     what is told of it
--   count_without_memory, ..  a run of a command
--   ends_in                   the last line told
use Rattle.std.proofs.Common.{◌≡◌, ◌⊎◌, inl, inr, ℕ, List, [], ◌∷◌, ◌++◌, refl}
use Rattle.outside.specs.station.Station.{Lines}
use Rattle.status.specs.declared.status.Status.TheVariants.{OutOfMemory}
use Rattle.status.specs.fault_lines.Telling.{EndsIn}
use Rattle.demo_command.proofs.WithoutMemory.{without_memory as demo_unprinted}
use Rattle.count_command.specs.declared.course.Course.{Course}
use Rattle.count_command.specs.CountRun.{CountRuns}
use Rattle.count_command.proofs.CountRun.{left_unread}
use Rattle.report_command.specs.StoreRun.{Writing}
use Rattle.report_command.proofs.StoreRun.{unread, no_line}
use Rattle.status.specs.Shown.{Shown, TellsAnswer}
use Rattle.monitor.specs.DemoRun.{ToldDemoRuns}
use Rattle.monitor.specs.Run.{OverStore}
use Rattle.monitor.proofs.Left.{LeftEarly, ends_of}

pub answer_without_memory : (name : List ℕ) (before after : Shown) → LeftEarly before after → TellsAnswer name before after OutOfMemory
answer_without_memory name before after left =
    record { told = left.tells; silent = λ k no. absurd (cc); last = λ k some. ends_of before after left k }

pub count_without_memory : (course : Course) (before after : Shown) → LeftEarly before after → CountRuns course before after OutOfMemory
count_without_memory course before after left =
    left_unread course before after OutOfMemory tt left.only refl left.tells (ends_of before after left) left.same.written left.same.asked (λ c. tt)
    (λ no. absurd cc) left.same.faults

pub store_without_memory : {Writes : Writing} (before after : Shown) → LeftEarly before after → OverStore Writes before after OutOfMemory
store_without_memory before after left =
    record { run = unread (no_line left.same.written left.tells left.last); asked = left.same.asked }

pub demo_without_memory : (seed samples : ℕ) (same_config : Type 0) (before after : Shown) → same_config → LeftEarly before after →
    ToldDemoRuns seed samples same_config before after OutOfMemory
demo_without_memory seed samples same_config before after unread left = record {
  run = demo_unprinted seed samples before.output_tells before.written after.written before.output_faults after.output_faults
      left.same.written;
  asked = left.same.asked;
  tells = answer_without_memory [] before after left;
  unread = unread;
}

-- the last line told, where it is put behind the others
pub ends_in : {Rose : Type 0} {new : Lines} (told : Lines) (line : List ℕ) → Rose ⊎ (new ≡ told ++ line ∷ []) → Rose ⊎ EndsIn line new
ends_in told line (inl rose) = inl rose
ends_in told line (inr is) = inr (told, is)
