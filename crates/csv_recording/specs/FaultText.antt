-- What is told of a column that has no samples.
use Rattle.std.specs.Prelude.{ℕ, List, ◌++◌, codes}
use Rattle.std.specs.Fmt.{decimal}
use Rattle.csv_recording.specs.declared.columns.ColumnFault.{ColumnFault}
use Rattle.csv_recording.specs.declared.columns.ColumnFault.TheVariants.{NoColumn, ShortRow, Cell, OutOfMemory}

abbrev pub column_fault_text : ColumnFault → List ℕ
column_fault_text NoColumn = codes "no column"
column_fault_text (ShortRow row fields) =
    codes "row " ++ decimal row ++ codes " has " ++ decimal fields ++ codes " fields"
column_fault_text (Cell row) = codes "row " ++ decimal row ++ codes " is no number"
column_fault_text OutOfMemory = codes "out of memory"
