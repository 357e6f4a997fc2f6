use Rattle.std.proofs.Common.{◌≡◌, ◌≢◌, ℤ, Bool, true, false, List, length, refl, ap}
use Rattle.std.specs.Prelude.{Result, Ok, Err, nat_lt, if◌then◌else◌}
use Rattle.std.proofs.lemmas.Bool.{ltb-true, lt-ltb}
use Rattle.csv_recording.specs.Column.{column_of}
use Rattle.csv_recording.specs.declared.columns.ColumnFault.{ColumnFault}
use Rattle.csv_recording.specs.declared.columns.ColumnFault.TheVariants as column
use Rattle.status.specs.declared.status.Status.TheVariants.{TooLong}
use Rattle.file_commands.specs.column_command.Task.{answer_by}
use Rattle.file_commands.proofs.column_command.laws.most_bytes.Goals as goal

-- no column is too long
not_long : (r : Result (List ℤ) ColumnFault) → answer_by r ≢ TooLong 0
not_long (Ok samples) e = cc
not_long (Err column.NoColumn) e = cc
not_long (Err (column.ShortRow row fields)) e = cc
not_long (Err (column.Cell row)) e = cc
not_long (Err column.OutOfMemory) e = cc

is_long : (b : Bool) (r : Result (List ℤ) ColumnFault) → (if b then TooLong 0 else answer_by r) ≡ TooLong 0 → b ≡ true
is_long true r e = refl
is_long false r e = absurd (not_long r e)

pub returns : goal.returns
returns c = λ name text. (
  λ e. ltb-true 268435456 (length text) (is_long (nat_lt 268435456 (length text)) (column_of name text) e),
  λ long. ap (λ (b : Bool). if b then TooLong 0 else answer_by (column_of name text)) (lt-ltb 268435456 (length text) long),
)
