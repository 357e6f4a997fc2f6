-- The theorem of the program: what a run did, by its words.
--   TaskRuns      a run of a command over one file, or of words that are no command
--   OverStore     a run of a command over the store alone
--   CommandRuns   a run of each command; of words that are no command, `None`
--   AnswersWords  whether the words are refused
--   IsRun         a run, by its words
use Rattle.std.specs.Prelude.{◌≡◌, ◌≢◌, ◌⊎◌, ℕ, List, [], map, Option, Some, None, String, string_bytes}
use Rattle.std.specs.declared.alloc.Global.{Global}
use Rattle.command_words.specs.Line.{Command, Table, Init, Count, Report, Audit, Demo, Repeat, Column, Sheet, Window, Compact, Watch, command_of}
use Rattle.outside.specs.Site.{AsksNothing}
use Rattle.status.specs.declared.status.Status.{Status}
use Rattle.status.specs.declared.status.Status.TheVariants.{Usage, OutOfMemory}
use Rattle.file_commands.specs.file_tasks.Run.{Task, Runs, usage_task, no_memory_task}
use Rattle.file_commands.specs.column_command.Task.{column_task}
use Rattle.file_commands.specs.sheet_command.SheetRun.{SheetRuns}
use Rattle.init_command.specs.InitRun.{InitRuns, without_output}
use Rattle.audit_command.specs.AuditRun.{AuditRuns}
use Rattle.count_command.specs.declared.course.Course.TheVariants as course
use Rattle.count_command.specs.CountRun.{CountRuns}
use Rattle.report_command.specs.StoreRun.{Writing, StoreRuns, without_site}
use Rattle.report_command.specs.Printing.{WritesReport}
use Rattle.report_command.specs.repeat_command.Printing.{WritesRepeats}
use Rattle.report_command.specs.window_command.Printing.{WritesWindow}
use Rattle.report_command.specs.compact_command.Copying.{WritesCopy}
use Rattle.monitor.specs.Task.{table_task}
use Rattle.status.specs.Shown.{Shown, TellsAnswer}
use Rattle.monitor.specs.Outside.{outside_in}
use Rattle.monitor.specs.DemoRun.{ToldDemoRuns}

-- By what it has to do, and the name in its line.
pub record TaskRuns (task : Task) (name : List ℕ) (same_config : Type 0) (before after : Shown)
    (answer : Status) : Type 0 where
  -- The task was done, or memory ran out before it and nothing was asked for or printed.
  pub run : Runs task (outside_in before) (outside_in after) answer ⊎
      Runs no_memory_task (outside_in before) (outside_in after) answer
  -- The line of the answer alone is told.
  pub tells : TellsAnswer name before after answer
  -- The configuration is left as it is.
  pub unread : same_config

-- By what it writes.
pub record OverStore (Writes : Writing) (before after : Shown) (answer : Status) : Type 0 where
  -- It did what its record says, by what is shown besides the site.
  pub run : StoreRuns Writes (without_site before) (without_site after) answer
  -- No file is asked for.
  pub asked : AsksNothing before.names_asked after.names_asked

-- With any command memory may run out while the words are read; each record has this among its answers.
abbrev pub CommandRuns : Option Command → Type 0 → Shown → Shown → Status → Type 0
CommandRuns (Some (Table file)) same_config before after answer =
    TaskRuns (table_task file before.files) file same_config before after answer
-- `init` is handed no output, and prints nothing.
CommandRuns (Some Init) same_config before after answer = InitRuns (without_output before) (without_output after) answer
    × (before.output_tells → after.written ≡ before.written)
CommandRuns (Some (Count workers)) same_config before after answer = CountRuns course.Count before after answer
CommandRuns (Some Report) same_config before after answer = OverStore WritesReport before after answer
CommandRuns (Some Audit) same_config before after answer = AuditRuns before after answer
CommandRuns (Some (Demo seed samples workers)) same_config before after answer =
    ToldDemoRuns seed samples same_config before after answer
CommandRuns (Some Repeat) same_config before after answer = OverStore WritesRepeats before after answer
CommandRuns (Some (Column file name id period)) same_config before after answer =
    TaskRuns (column_task file name (record { id = id; period_us = period }) before.files) file same_config
    before after answer
CommandRuns (Some Sheet) same_config before after answer = SheetRuns before after answer
CommandRuns (Some (Window start from to)) same_config before after answer =
    OverStore (WritesWindow (record { start = start; from = from; to = to })) before after answer
CommandRuns (Some Compact) same_config before after answer = OverStore WritesCopy before after answer
CommandRuns (Some (Watch workers)) same_config before after answer = CountRuns course.Watch before after answer
CommandRuns None same_config before after answer = TaskRuns usage_task [] same_config before after answer

-- Words that are no command are answered with `Usage`, or memory runs out; a command never is.
abbrev pub AnswersWords : Option Command → Status → Type 0
AnswersWords None answer = (answer ≡ Usage) ⊎ (answer ≡ OutOfMemory)
AnswersWords (Some command) answer = answer ≢ Usage

-- From what is shown before the run to what is shown after it. `same_config` says that the configuration is the same
-- value after it.
pub record IsRun (words : List (String Global)) (same_config : Type 0) (before after : Shown)
    (answer : Status) : Type 0 where
  -- The command that the words name did what its record says.
  pub command : CommandRuns (command_of (map string_bytes words)) same_config before after answer
  -- `Usage` is answered where the words are no command, unless memory runs out, and nowhere else.
  pub usage : AnswersWords (command_of (map string_bytes words)) answer
  -- All sources are back at the site.
  pub back : after.out ≡ 0
  -- No file of the site has changed.
  pub files : before.site_tells → after.files ≡ before.files
