-- Recordings as a CSV text, one column for each gauge.
--   longest         the greatest number of samples
--   sheet_rows      the names, and then a record for each sample of the longest recording
--   sheet_text      their text, as `csv` writes records by its defaults
--   padded_samples  samples, and behind them readings that are missing
use Rattle.std.specs.Prelude.{ℕ, ℤ, zero, suc, ◌+◌, ◌-◌, max, List, [], ◌∷◌, ◌++◌, length, map, replicate, slice_index_or}
use Rattle.csv.specs.Writing.{default_writer, row_text}
use Rattle.calibration.specs.declared.reading.TheConstants.{MISSING}
use Rattle.csv_recording.specs.Cells.{cell_text}

unfoldable pub longest : List (List ℤ) → ℕ
longest [] = 0
longest (samples ∷ rest) = max (length samples) (longest rest)

-- the cells of the samples of this number: a recording that is shorter has no reading there
abbrev pub cells_at : ℕ → List (List ℤ) → List (List ℕ)
cells_at i recordings = map (λ samples. cell_text (slice_index_or samples i MISSING)) recordings

-- so many records, from the samples of this number on
unfoldable pub rows_from : List (List ℤ) → ℕ → ℕ → List (List (List ℕ))
rows_from recordings i zero = []
rows_from recordings i (suc n) = cells_at i recordings ∷ rows_from recordings (i + 1) n

abbrev pub sheet_rows : List (List ℕ) → List (List ℤ) → List (List (List ℕ))
sheet_rows names recordings = names ∷ rows_from recordings 0 (longest recordings)

unfoldable pub text_of_rows : List (List (List ℕ)) → List ℕ
text_of_rows [] = []
text_of_rows (row ∷ rows) = row_text default_writer row ++ text_of_rows rows

abbrev pub sheet_text : List (List ℕ) → List (List ℤ) → List ℕ
sheet_text names recordings = text_of_rows (sheet_rows names recordings)

abbrev pub padded_samples : List ℤ → ℕ → List ℤ
padded_samples samples n = samples ++ replicate (n - length samples) MISSING
