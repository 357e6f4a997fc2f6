-- A sheet's columns are what it was made of.
use Rattle.std.specs.Prelude.{ℕ, ℤ, ◌≡◌, ◌<◌, List, [], length, slice_index_or, All, IsAscii, bytes_eq, FitsSigned, Ok}
use Rattle.std.specs.Int.{w32}
use Rattle.std.specs.List.{IsDistinct}
use Rattle.csv_recording.specs.Column.{column_of}
use Rattle.csv_recording.specs.Sheet.{sheet_text, padded_samples, longest}

-- Names that are all different, in ASCII, and a recording of samples of 32 bits for each. A gauge's name in a
-- configuration is of letters, digits, dashes and underscores, so it is ASCII.
pub record AreGauges (names : List (List ℕ)) (recordings : List (List ℤ)) : Type 0 where
  pub pairs : length names ≡ length recordings
  pub ascii : All IsAscii names
  pub distinct : IsDistinct bytes_eq names
  pub samples : All (All (FitsSigned w32)) recordings

-- The column of a gauge's name has its samples, and readings that are missing up to the end of the longest recording.
abbrev pub ReadsBack : Type 0
ReadsBack = (names : List (List ℕ)) (recordings : List (List ℤ)) (g : ℕ) → AreGauges names recordings → g < length names
    → column_of (slice_index_or names g []) (sheet_text names recordings)
    ≡ Ok (padded_samples (slice_index_or recordings g []) (longest recordings))
