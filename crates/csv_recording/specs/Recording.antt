-- A column as a recording.
--   recording_bytes  the recording with a head and samples
--   ReadsAs          a file reads as a head and samples
--   ReadsAsWritten   the recording of a column reads as the column's samples
use Rattle.std.specs.Prelude.{◌≡◌, ℕ, ℤ, List, ◌++◌, drop, Ok}
use Rattle.recording.specs.Head.{IsRecorded, head_bytes, recording_head}
use Rattle.recording.specs.Samples.{samples, torn_bytes, sample_bytes}
use Rattle.recording.specs.declared.head.Head.{Head}
use Rattle.csv_recording.specs.Column.{column_of}
use Rattle.recording.specs.declared.head.TheConstants.{HEAD_LENGTH}

abbrev pub recording_bytes : Head → List ℤ → List ℕ
recording_bytes head values = head_bytes head ++ sample_bytes values

-- whole samples alone stand behind the head
pub record ReadsAs (file : List ℕ) (head : Head) (values : List ℤ) : Type 0 where
  pub head_is : recording_head file ≡ Ok head
  pub samples_are : samples (drop HEAD_LENGTH file) ≡ values
  pub whole : torn_bytes (drop HEAD_LENGTH file) ≡ 0

abbrev pub ReadsAsWritten : Type 0
ReadsAsWritten = (head : Head) (name text : List ℕ) (w : List ℤ) → IsRecorded head → column_of name text ≡ Ok w →
    ReadsAs (recording_bytes head w) head w
