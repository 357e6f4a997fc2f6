-- The records of a written text are those that were written.
use Rattle.std.proofs.Common.{◌≡◌, ℕ, ◌<◌, Bool, true, false, if◌then◌else◌, ◌==◌, List, [], ◌∷◌, ◌++◌, map, IsAscii, refl, ap, ◌∙◌, inl, inr, arith, ne_eqb}
use Rattle.std.specs.List.{list_any}
use Rattle.std.proofs.lemmas.Bool.{cases_Bool}
use Rattle.csv.specs.Machine.{next_record}
use Rattle.csv.specs.Reading.{Reached, records, default_config, strip_bom}
use Rattle.csv.specs.Writing.{default_writer, read_back, row_text, fields_text, is_blank, needs_byte}
use Rattle.csv.specs.declared.parser.State.TheVariants as st
use Rattle.csv.proofs.RoundTrip.{read-write}
use Rattle.csv_recording.specs.Column.{records_of}
use Rattle.csv_recording.specs.Sheet.{text_of_rows}
use Rattle.csv_recording.proofs.Records.{records_are}

written : (rows : List (List (List ℕ)))
    → Reached default_config st.StartRecord (text_of_rows rows) (map read_back rows) st.StartRecord []
unfolding Reached text_of_rows
written [] = (refl, refl)
written (row ∷ rows) = ((read_back row, st.StartRecord, text_of_rows rows), read-write row (text_of_rows rows), refl, written rows)

-- where no byte order mark begins the text
pub records_back : (rows : List (List (List ℕ))) → strip_bom (text_of_rows rows) ≡ text_of_rows rows
    → records_of (text_of_rows rows) ≡ map read_back rows
unfolding next_record
records_back rows plain =
    ap (records default_config) plain ∙ records_are (text_of_rows rows) (map read_back rows) (st.StartRecord, [], written rows, refl)

-- no byte order mark begins a text that begins in ASCII
strip_stands : (c : ℕ) (text : List ℕ) → c < 128 → strip_bom (c ∷ text) ≡ c ∷ text
unfolding strip_bom
strip_stands c [] h = refl
strip_stands c (b ∷ []) h = refl
strip_stands c (b ∷ a ∷ text) h = let no : (c == 239) ≡ false = ne_eqb c 239 (λ e. omega arith) in rw no refl

-- a text that has a first byte, which is ASCII
abbrev Begins : List ℕ → Type 0
Begins text = (c : ℕ) × (rest : List ℕ) × (text ≡ c ∷ rest) × (c < 128)

begins_more : (text more : List ℕ) → Begins text → Begins (text ++ more)
begins_more text more (c, rest, e, small) = (c, rest ++ more, ap (λ t. t ++ more) e, small)

begins_stands : (text : List ℕ) → Begins text → strip_bom text ≡ text
begins_stands text (c, rest, e, small) = rw e (strip_stands c rest small)

ends_begin : (blank : Bool) → Begins ((if blank then 34 ∷ 34 ∷ [] else []) ++ (10 ∷ []))
ends_begin true = (34, 34 ∷ 10 ∷ [], refl, omega arith)
ends_begin false = (10, [], refl, omega arith)

-- the record of an empty field and the fields behind it
empty_begins : (fields : List (List ℕ)) → Begins (row_text default_writer ([] ∷ fields))
unfolding fields_text is_blank
empty_begins [] = ends_begin true
empty_begins (field ∷ fields) = (44, _, refl, omega arith)

name_begins : (name : List ℕ) (fields : List (List ℕ)) → IsAscii name → Begins (row_text default_writer (name ∷ fields))
name_begins [] fields ascii = empty_begins fields
name_begins (c ∷ name) fields ascii = elim (cases_Bool (list_any (needs_byte default_writer) (c ∷ name))) [
  | inl quoted ↦ rw quoted (34, _, refl, omega arith)
  | inr plain ↦ rw plain (c, _, refl, ascii 0)
]

pub sheet_begins : (name : List ℕ) (fields : List (List ℕ)) (rows : List (List (List ℕ))) → IsAscii name
    → strip_bom (text_of_rows ((name ∷ fields) ∷ rows)) ≡ text_of_rows ((name ∷ fields) ∷ rows)
unfolding text_of_rows
sheet_begins name fields rows ascii = begins_stands _ (begins_more _ (text_of_rows rows) (name_begins name fields ascii))
