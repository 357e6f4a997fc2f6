-- What a writer of records has written.
use Rattle.std.specs.Prelude.{ℕ, ◌≡◌, ◌==◌, ◌&&◌, ◌||◌, not, List, ◌++◌, length, Vec, vec_items}
use Rattle.std.specs.declared.alloc.Global.{Global}
use Rattle.csv.specs.Writing.{default_writer, is_blank, row_body, writer_setup, fields_written, has_written, writer_under, writer_pending}
use Rattle.csv.specs.declared.writer.Writer.{Writer}

-- This text of whole records, and then these fields of one more. Whether the fields show a byte is known as long as
-- that counts: a record that shows none gets two quotes at its end.
pub record HasWrittenText (text : List ℕ) (fields : List (List ℕ)) (w : Writer (Vec ℕ Global)) : Type 0 where
  pub setup : writer_setup w ≡ default_writer
  pub bytes : vec_items (writer_under w) ++ writer_pending w ≡ text ++ row_body default_writer fields
  pub count : fields_written w ≡ length fields
  pub blank : is_blank default_writer fields ≡ (not (has_written w) && ((length fields == 0) || (length fields == 1)))
