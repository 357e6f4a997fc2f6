-- What `column` has to do.
--   column_answer     the answer where nothing outside fails and memory lasts
--   MayAnswer         what may be answered, whatever fails
--   IsAnswer          what may be answered where nothing outside fails
--   column_text       what is written
--   column_task       all of it, of a file among those of a site
use Rattle.std.specs.Prelude.{◌≡◌, ◌⊎◌, ℕ, ℤ, ⊤, nat_lt, if◌then◌else◌, List, [], ◌∷◌, length, Option, Some, None, IsSome, Result, Ok, Err, IsOk}
use Rattle.outside.specs.Site.{Files}
use Rattle.recording.specs.declared.head.Head.{Head}
use Rattle.csv_recording.specs.Column.{column_of}
use Rattle.csv_recording.specs.Recording.{recording_bytes}
use Rattle.csv_recording.specs.declared.columns.ColumnFault.{ColumnFault}
use Rattle.csv_recording.specs.declared.columns.ColumnFault.TheVariants as column
use Rattle.file_commands.specs.file_tasks.Run.{Task}
use Rattle.status.specs.declared.status.Status.{Status}
use Rattle.status.specs.declared.status.Status.TheVariants.{Done, Usage, Recording, ReadFault, WriteFault, OutOfMemory, TooLong}
use Rattle.status.specs.declared.status.RecordingFault.TheVariants.{NoColumn, ShortRow, Cell}
use Rattle.file_commands.specs.declared.column_command.reading.TheConstants.{MAX_FILE_BYTES}

-- The gauge of a single file is 0.
abbrev pub fault_status : ColumnFault → Status
fault_status column.NoColumn = Recording 0 NoColumn
fault_status (column.ShortRow row fields) = Recording 0 (ShortRow row fields)
fault_status (column.Cell row) = Recording 0 (Cell row)
fault_status column.OutOfMemory = OutOfMemory

abbrev pub answer_by : Result (List ℤ) ColumnFault → Status
answer_by (Ok samples) = Done
answer_by (Err fault) = fault_status fault

-- A file with too many bytes is not looked into.
abbrev pub text_answer : List ℕ → List ℕ → Status
text_answer name text = if nat_lt MAX_FILE_BYTES (length text) then TooLong 0 else answer_by (column_of name text)

-- of the column of this name, in what a file holds
abbrev pub column_answer : List ℕ → Option (List ℕ) → Status
column_answer name None = ReadFault
column_answer name (Some text) = text_answer name text

-- A fault of the outside may come at any time, memory may run out over each file, and only a column without a fault is
-- written.
abbrev pub MayAnswer : Status → List ℕ → Option (List ℕ) → Type 0
MayAnswer Usage name file = ⊥
MayAnswer ReadFault name file = ⊤
MayAnswer OutOfMemory name file = IsSome file
MayAnswer WriteFault name file = column_answer name file ≡ Done
MayAnswer answer name file = answer ≡ column_answer name file

-- there is such a file, and unless memory runs out the answer is its own
abbrev pub IsAnswer : Status → List ℕ → Option (List ℕ) → Type 0
IsAnswer answer name file = IsSome file × ((answer ≡ column_answer name file) ⊎ (answer ≡ OutOfMemory))

abbrev pub text_by : Head → Result (List ℤ) ColumnFault → Option (List ℕ)
text_by head (Ok samples) = Some (recording_bytes head samples)
text_by head (Err fault) = None

abbrev pub column_text : Head → List ℕ → Option (List ℕ) → Option (List ℕ)
column_text head name None = None
column_text head name (Some text) = text_by head (column_of name text)

-- of the column of a name in the file of a name
abbrev pub column_task : List ℕ → List ℕ → Head → Files → Task
column_task file name head files = record {
  text = column_text head name (files file);
  MayAnswer = λ answer. MayAnswer answer name (files file);
  IsAnswer = λ answer. IsAnswer answer name (files file);
  names = file ∷ [];
}

-- how the writing of a column may end
abbrev pub IsColumnEnd : Result (List ℤ) ColumnFault → Status → Type 0
IsColumnEnd column Done = IsOk column
IsColumnEnd column WriteFault = IsOk column
IsColumnEnd column OutOfMemory = ⊤
IsColumnEnd column (Recording gauge fault) = answer_by column ≡ Recording gauge fault
IsColumnEnd column status = ⊥
