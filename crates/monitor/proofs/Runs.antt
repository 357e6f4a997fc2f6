-- A run of the program, by its words.
--   of_words            the words mean the command that was read
--   is_run              a run that did what its command says
--   back_of, files_of   what stays in a run of a task
--   refused, not_done   words that are no command
--   not_usage           no answer of a command over the store
--   left_run            memory ran out while the words were read
use Rattle.std.proofs.Common.{◌≡◌, ◌≢◌, ◌⊎◌, inl, inr, ℕ, List, [], sym, ◌∙◌, ap, subst, append-nil, map, string_bytes, refl}
use Rattle.std.specs.Prelude.{Option, Some, None, String}
use Rattle.std.specs.declared.alloc.Global.{Global}
use Rattle.command_words.specs.Commands.{command_in, meaning_of}
use Rattle.command_words.specs.Line.{Command, Table, Init, Count, Report, Audit, Demo, Repeat, Column, Sheet, Window, Compact, Watch, command_of}
use Rattle.command_words.specs.declared.command.Command.{Command as Named}
use Rattle.file_commands.specs.column_command.Task.{column_task}
use Rattle.file_commands.specs.file_tasks.Run.{Outside, Task, Runs, usage_task, no_memory_task}
use Rattle.status.specs.declared.status.Status.{Status}
use Rattle.status.specs.declared.status.Status.TheVariants.{Done, Usage, ReadFault, WriteFault, OutOfMemory}
use Rattle.status.specs.Printing.{IsReporting}
use Rattle.file_commands.proofs.on_sheet_command.Answered.{left_unread as sheet_unread}
use Rattle.init_command.specs.InitRun.{without_output}
use Rattle.init_command.proofs.InitRun.{left_unread as init_unread}
use Rattle.audit_command.proofs.AuditRun.{left_unread as audit_unread}
use Rattle.count_command.specs.declared.course.Course.TheVariants as course
use Rattle.monitor.specs.Task.{table_task}
use Rattle.status.specs.Shown.{Shown}
use Rattle.monitor.specs.Outside.{outside_in}
use Rattle.monitor.specs.Run.{TaskRuns, CommandRuns, AnswersWords, IsRun}
use Rattle.monitor.proofs.Left.{Untouched, LeftEarly}
use Rattle.monitor.proofs.NoMemory.{answer_without_memory, count_without_memory, store_without_memory, demo_without_memory}

-- as the reader of the words gives it, behind `Ok(Some(..))`
pub of_words : {words : Option Command} {read : Option Named} {inner named : Named} → meaning_of read ≡ words → read ≡ Some inner →
    inner ≡ named → words ≡ Some (command_in named)
of_words line some is = sym line ∙ ap meaning_of some ∙ ap (λ x. meaning_of (Some x)) is

pub is_run : {words : List (String Global)} {meant : Option Command} {same_config : Type 0} {before after : Shown} {s : Status} →
    command_of (map string_bytes words) ≡ meant → CommandRuns meant same_config before after s → AnswersWords meant s → after.out ≡ 0 →
    (before.site_tells → after.files ≡ before.files) → IsRun words same_config before after s
is_run {same_config = same_config} {before = before} {after = after} {s = s} is command usage back files = record {
  command = subst (λ (c : Option Command). CommandRuns c same_config before after s) (sym is) command;
  usage = subst (λ (c : Option Command). AnswersWords c s) (sym is) usage;
  back = back;
  files = files;
}

pub back_of : {task : Task} {before after : Outside} {s : Status} → Runs task before after s ⊎ Runs no_memory_task before after s →
    after.out ≡ 0
back_of (inl run) = run.back
back_of (inr run) = run.back

pub files_of : {task : Task} {before after : Outside} {s : Status} → Runs task before after s ⊎ Runs no_memory_task before after s →
    before.site_tells → after.files ≡ before.files
files_of (inl run) = run.files
files_of (inr run) = run.files

-- the task of words that are no command, or were not read, by its answer
abbrev idle_task : Status → Task
idle_task answer =
    record { text = None; MayAnswer = λ given. given ≡ answer; IsAnswer = λ given. given ≡ answer; names = [] }

idle_run : (answer : Status) (before after : Outside) (s : Status) → s ≡ answer → answer ≢ Done → answer ≢ WriteFault →
    answer ≢ ReadFault → Untouched before after → Runs (idle_task answer) before after s
idle_run answer before after s is no_done no_write no_read same = record {
  done = λ t o done. absurd (no_done (sym is ∙ done));
  front = λ t o write. absurd (no_write (sym is ∙ write));
  nothing = λ o d w. same.written;
  answer_may = λ t. is;
  complete = λ t r w. is;
  read = λ read. absurd (no_read (sym is ∙ read));
  write = λ write. absurd (no_write (sym is ∙ write));
  asked = λ names has. subst after.names_asked (sym (append-nil names)) (same.asked names has);
  back = same.back;
  files = same.files;
}

no_memory : (before after : Outside) (s : Status) → s ≡ OutOfMemory → Untouched before after → Runs no_memory_task before after s
no_memory before after s is same = idle_run OutOfMemory before after s is (λ no. cc) (λ no. cc) (λ no. cc) same

pub refused : {before after : Outside} {s : Status} → (s ≡ Usage) ⊎ (s ≡ OutOfMemory) → Untouched before after →
    Runs usage_task before after s ⊎ Runs no_memory_task before after s
refused {before = before} {after = after} {s = s} (inl is) same = inl (idle_run Usage before after s is (λ no. cc) (λ no. cc) (λ no. cc) same)
refused {before = before} {after = after} {s = s} (inr is) same = inr (no_memory before after s is same)

pub not_done : {s : Status} → (s ≡ Usage) ⊎ (s ≡ OutOfMemory) → s ≢ Done
not_done (inl is) = λ done. cc
not_done (inr is) = λ done. cc

pub not_usage : {s : Status} → IsReporting s → s ≢ Usage
not_usage kind is = subst (λ (x : Status). IsReporting x) is kind

left_task : (task : Task) (name : List ℕ) (same_config : Type 0) (before after : Shown) → same_config → LeftEarly before after →
    TaskRuns task name same_config before after OutOfMemory
left_task task name same_config before after unread left = record {
  run = inr (no_memory (outside_in before) (outside_in after) OutOfMemory refl left.same);
  tells = answer_without_memory name before after left;
  unread = unread;
}

left_command : (meant : Option Command) (same_config : Type 0) (before after : Shown) → same_config → LeftEarly before after →
    CommandRuns meant same_config before after OutOfMemory
left_command None same_config before after unread left = left_task usage_task [] same_config before after unread left
left_command (Some (Table file)) same_config before after unread left =
    left_task (table_task file before.files) file same_config before after unread left
left_command (Some Init) same_config before after unread left = (
  init_unread (without_output before) (without_output after) OutOfMemory tt left.counts left.tells left.last left.same.asked (λ reads. tt)
      (λ no. absurd cc) left.same.faults,
  λ tells. left.same.written,
)
left_command (Some (Count workers)) same_config before after unread left = count_without_memory course.Count before after left
left_command (Some Report) same_config before after unread left = store_without_memory before after left
left_command (Some Audit) same_config before after unread left =
    audit_unread before after OutOfMemory tt left.tells left.last left.same.written left.same.asked left.same.faults (λ reads. tt)
    (λ no. absurd cc)
left_command (Some (Demo seed samples workers)) same_config before after unread left =
    demo_without_memory seed samples same_config before after unread left
left_command (Some Repeat) same_config before after unread left = store_without_memory before after left
left_command (Some (Column file name id period)) same_config before after unread left =
    left_task (column_task file name (record { id = id; period_us = period }) before.files) file same_config before after
    unread left
left_command (Some Sheet) same_config before after unread left =
    sheet_unread before after OutOfMemory tt left.tells left.last left.same.written left.same.asked (λ reads. tt) (λ no. absurd cc)
    left.same.faults
left_command (Some (Window start from to)) same_config before after unread left = store_without_memory before after left
left_command (Some Compact) same_config before after unread left = store_without_memory before after left
left_command (Some (Watch workers)) same_config before after unread left = count_without_memory course.Watch before after left

left_usage : (meant : Option Command) (s : Status) → s ≡ OutOfMemory → AnswersWords meant s
left_usage None s is = inr is
left_usage (Some command) s is = λ no. cc

pub left_run : {words : List (String Global)} {same_config : Type 0} {before after : Shown} {s : Status} → s ≡ OutOfMemory →
    same_config → LeftEarly before after → IsRun words same_config before after s
left_run {words = words} {same_config = same_config} {before = before} {after = after} {s = s} is unread left = record {
  command = subst (λ (x : Status). CommandRuns (command_of (map string_bytes words)) same_config before after x) (sym is)
      (left_command (command_of (map string_bytes words)) same_config before after unread left);
  usage = left_usage (command_of (map string_bytes words)) s is;
  back = left.same.back;
  files = left.same.files;
}
