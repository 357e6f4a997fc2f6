-- The records that a reader over bytes has yet to give.
--   text_left   the bytes that it has yet to read
--   rows_left   the records in them
--   IsPlain     it reads as `csv` does by default, with no header row of its own, and stands between two records
use Rattle.std.proofs.Common.{Bor}
use Rattle.std.specs.Prelude.{ℕ, ◌≡◌, ◌+◌, false, List, [], length, Option, Some, unwrap_or}
use Rattle.csv.specs.Machine.{ends_at_end}
use Rattle.csv.specs.Reading.{Ready, default_config, reader_config, reader_state, reader_trim, records_from, source_of}
use Rattle.csv.specs.declared.reader.Reader.{Reader}
use Rattle.csv.specs.declared.reader.Trim.TheVariants as trim

abbrev pub SliceReader : Type 0
SliceReader = Reader (Bor (List ℕ))

abbrev pub source_left : SliceReader → Option (List ℕ)
source_left reader = source_of (λ slice. Some slice.now) reader

abbrev pub text_left : SliceReader → List ℕ
text_left reader = unwrap_or (source_left reader) []

unfoldable pub rows_left : SliceReader → List (List (List ℕ))
rows_left reader = records_from default_config (length (text_left reader) + 1) (reader_state reader) (text_left reader)

pub record IsPlain (reader : SliceReader) : Type 0 where
  pub config : reader_config reader ≡ default_config
  pub trim : reader_trim reader ≡ trim.None
  pub ready : Ready reader
  pub between : ends_at_end (reader_state reader) ≡ false
  pub source : source_left reader ≡ Some (text_left reader)
