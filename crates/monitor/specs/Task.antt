-- What `table` has to do.
use Rattle.std.specs.Prelude.{ℕ, List, [], ◌∷◌, option_map}
use Rattle.outside.specs.Site.{Files}
use Rattle.file_commands.specs.file_tasks.Answer.{MayAnswer, IsAnswer}
use Rattle.file_commands.specs.file_tasks.FileState.{file_state}
use Rattle.file_commands.specs.file_tasks.Run.{Task}
use Rattle.monitor.specs.Printed.{text_of}

-- of the file of this name; the gauge of a single file is 0
abbrev pub table_task : List ℕ → Files → Task
table_task name files = record {
  text = option_map text_of (files name);
  MayAnswer = λ answer. MayAnswer 0 answer (file_state (files name));
  IsAnswer = λ answer. IsAnswer 0 answer (file_state (files name));
  names = name ∷ [];
}
