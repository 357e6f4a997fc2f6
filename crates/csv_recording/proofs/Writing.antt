-- What the steps of a writer add to what it has written.
use Rattle.std.proofs.Common.{◌≡◌, ◌≢◌, ℕ, zero, suc, ◌+◌, ◌-◌, ◌^◌, ◌<◌, min, true, false, not, ◌==◌, ℤ, List, [], ◌∷◌, ◌++◌, length, Option, Some, Vec, Global, vec_items, refl, sym, ap, ◌∙◌, arith, append_assoc, append-nil, length-append}
use Rattle.std.specs.Io.KnownBytes.{Appends}
use Rattle.csv.specs.Writing.{default_writer, is_blank, row_body, row_text, next_sep, field_text, tail_text, writer_setup, fields_written, has_written, text_written, writer_under, writer_pending}
use Rattle.csv.specs.declared.writer.QuoteStyle.TheVariants as style
use Rattle.csv.specs.declared.writer.Writer.{Writer}
use Rattle.csv.proofs.WriteFacts.{row-more, blank-more}
use Rattle.csv_recording.specs.Sheet.{cells_at, rows_from, text_of_rows}
use Rattle.csv_recording.specs.Writers.{HasWrittenText}

abbrev Bytes : Type 0
Bytes = Vec ℕ Global

abbrev seen : Bytes → Option (List ℕ)
seen v = Some v.items

no_numbers : default_writer.style ≢ style.NonNumeric
no_numbers e = cc e

-- what a writer says of a field that it has taken
pub record TookField (field : List ℕ) (w new : Writer Bytes) : Type 0 where
  pub text : ((writer_setup w).style ≢ style.NonNumeric) → Appends (text_written seen w) (text_written seen new)
      (next_sep (writer_setup w) (fields_written w) ++ field_text (writer_setup w) field)
  pub same : writer_setup new ≡ writer_setup w
  pub count : fields_written new ≡ min (fields_written w + 1) (2 ^ 64 - 1)
  pub wrote : (has_written w ≡ false) → ((writer_setup w).style ≢ style.NonNumeric)
      → has_written new ≡ not (length (field_text (writer_setup w) field) == 0)
  pub stays : (has_written w ≡ true) → has_written new ≡ true

pub field_more : (w new : Writer Bytes) (text : List ℕ) (fields : List (List ℕ)) (field : List ℕ) → length fields < 2 ^ 64 - 1
    → TookField field w new → HasWrittenText text fields w → HasWrittenText text (fields ++ field ∷ []) new
field_more w new text fields field few e h =
    let size : length (fields ++ field ∷ []) ≡ length fields + 1 = length-append fields (field ∷ []) in
    let added = rw (h.setup, h.count) at e.text no_numbers in
    record {
      setup = e.same ∙ h.setup;
      bytes = added ∙ ap (λ bytes. bytes ++ (next_sep default_writer (length fields) ++ field_text default_writer field)) h.bytes
          ∙ append_assoc text (row_body default_writer fields) _ ∙ ap (λ bytes. text ++ bytes) (sym (row-more default_writer fields field));
      count = e.count ∙ rw (h.count, size) (omega (arith, few));
      blank = rw size (blank-more default_writer fields field (has_written w) (has_written new) h.blank
          (λ none. rw h.setup at e.wrote none no_numbers) e.stays);
    }

-- and of a record that it has ended
pub record EndedRecord (w new : Writer Bytes) : Type 0 where
  pub bytes : Appends (text_written seen w) (text_written seen new) (tail_text (writer_setup w) (has_written w) (fields_written w))
  pub fields : fields_written new ≡ 0
  pub wrote : has_written new ≡ false
  pub same : writer_setup new ≡ writer_setup w

pub record_done : (w new : Writer Bytes) (text : List ℕ) (fields : List (List ℕ)) → EndedRecord w new → HasWrittenText text fields w
    → HasWrittenText (text ++ row_text default_writer fields) [] new
unfolding is_blank
record_done w new text fields e h =
    let added = rw (h.setup, h.count) at e.bytes in
    record {
      setup = e.same ∙ h.setup;
      bytes = added ∙ rw (h.bytes, ← h.blank) (append_assoc text (row_body default_writer fields) _) ∙ sym (append-nil _);
      count = e.fields;
      blank = rw e.wrote refl;
    }

-- one row more
pub rows_next : (recordings : List (List ℤ)) (i n : ℕ) → text_of_rows (rows_from recordings i (n + 1))
    ≡ text_of_rows (rows_from recordings i n) ++ row_text default_writer (cells_at (i + n) recordings)
unfolding text_of_rows rows_from
rows_next recordings i zero =
    let here : i + 0 ≡ i = omega arith in
    rw here (append-nil _)
rows_next recordings i (suc n) =
    let more : suc n + 1 ≡ suc (n + 1) = omega arith in
    let there : i + suc n ≡ i + 1 + n = omega arith in
    rw (more, there) (ap (λ rest. row_text default_writer (cells_at i recordings) ++ rest) (rows_next recordings (i + 1) n)
    ∙ sym (append_assoc (row_text default_writer (cells_at i recordings)) _ _))

-- a writer that has just been made
pub begun : (w : Writer Bytes) → writer_setup w ≡ default_writer → vec_items (writer_under w) ++ writer_pending w ≡ []
    → fields_written w ≡ 0 → has_written w ≡ false → HasWrittenText [] [] w
unfolding is_blank
begun w setup bytes count wrote = record { setup = setup; bytes = bytes; count = count; blank = rw wrote refl }
