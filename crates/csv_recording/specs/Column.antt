-- A column of a CSV file as samples, or the first thing that is wrong with it.
--   records_of   every record of a text: `csv` reads commas and double quotes, blank lines are no records, and a byte
--                order mark is no part of the first
--   place_of     where a record has a field of this name first
--   column_of    the samples in the column of a name
use Rattle.std.specs.Prelude.{ℕ, ℤ, ◌≡◌, ◌+◌, List, [], ◌∷◌, length, Option, Result, Ok, Err, ⊤, ok_or}
use Rattle.std.specs.List.{position_from}
use Rattle.std.specs.Str.{bytes_eq}
use Rattle.csv.specs.Reading.{records, default_config, strip_bom}
use Rattle.csv.specs.Records.{field_at}
use Rattle.csv_recording.specs.Cells.{cell_sample}
use Rattle.csv_recording.specs.declared.columns.ColumnFault.{ColumnFault}
use Rattle.csv_recording.specs.declared.columns.ColumnFault.TheVariants.{NoColumn, ShortRow, Cell, OutOfMemory}

abbrev pub records_of : List ℕ → List (List (List ℕ))
records_of text = records default_config (strip_bom text)

abbrev pub place_of : List ℕ → List (List ℕ) → Option ℕ
place_of name fields = position_from (λ field. bytes_eq field name) 0 fields

infixl 10 ◌>>=◌
abbrev pub ◌>>=◌ : {A B : Type 0} → Result A ColumnFault → (A → Result B ColumnFault) → Result B ColumnFault
Ok x >>= f = f x
Err fault >>= f = Err fault

-- the sample that the row of this number has at this place
abbrev pub sample_of_row : ℕ → ℕ → List (List ℕ) → Result ℤ ColumnFault
sample_of_row place row fields = do
  cell ← ok_or (field_at fields place) (ShortRow row (length fields))
  ok_or (cell_sample cell) (Cell row)

-- those of rows, the first of which has this number
unfoldable pub samples_of_rows : ℕ → ℕ → List (List (List ℕ)) → Result (List ℤ) ColumnFault
samples_of_rows place row [] = Ok []
samples_of_rows place row (fields ∷ rows) = do
  sample ← sample_of_row place row fields
  samples ← samples_of_rows place (row + 1) rows
  Ok (sample ∷ samples)

-- The first record has the names of the columns. The records behind it are rows, numbered from 0.
abbrev pub column_in : List ℕ → List (List (List ℕ)) → Result (List ℤ) ColumnFault
column_in name [] = Err NoColumn
column_in name (header ∷ rows) = do
  place ← ok_or (place_of name header) NoColumn
  samples_of_rows place 0 rows

abbrev pub column_of : List ℕ → List ℕ → Result (List ℤ) ColumnFault
column_of name text = column_in name (records_of text)

-- What a reading of the column answers, by what its samples are seen as: want of memory may come at any time.
abbrev pub GivesColumn : {S : Type 0} → (S → List ℤ) → Result S ColumnFault → Result (List ℤ) ColumnFault → Type 0
GivesColumn see (Ok samples) asked = asked ≡ Ok (see samples)
GivesColumn see (Err NoColumn) asked = asked ≡ Err NoColumn
GivesColumn see (Err (ShortRow row fields)) asked = asked ≡ Err (ShortRow row fields)
GivesColumn see (Err (Cell row)) asked = asked ≡ Err (Cell row)
GivesColumn see (Err OutOfMemory) asked = ⊤
