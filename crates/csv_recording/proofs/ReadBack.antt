-- A recording that was written reads as its head and its samples.
use Rattle.std.proofs.Common.{◌≡◌, ◌≤◌, ℕ, ◌+◌, Bool, true, false, ℤ, pos, negsuc, List, [], ◌∷◌, ◌++◌, length, take, drop, refl, ap, ◌∙◌, subst, append_assoc, rules, arith}
use Rattle.std.proofs.lemmas.Bool.{cond-false, and_parts}
use Rattle.std.proofs.lemmas.Option.{same_Some}
use Rattle.std.specs.Str.Parse.{digits_value}
use Rattle.csv.specs.Records.{field_at}
use Rattle.std.proofs.lemmas.Bool.Decides.{nat_tests}
use Rattle.std.specs.Prelude.{⊤, zero, suc, nat_lt, nat_le, ◌==◌, if◌then◌else◌, FitsSigned, Result, Ok, Err, Option, Some, None, neg_ℤ, option_map, ok_or}
use Rattle.std.specs.Int.{w32, to_le_bytes}
use Rattle.std.proofs.lemmas.Int.{fits_signed_from_abs}
use Rattle.std.proofs.lemmas.List.{take_at, drop_at, length-append}
use Rattle.std.proofs.lemmas.Nat.{from_le_bytes-to_le_bytes_4}
use Rattle.lemmas.proofs.Outcomes.{same_ok}
use Rattle.recording.specs.Head.{IsRecorded, head_bytes, head_in, recording_head}
use Rattle.recording.specs.Samples.{samples, torn_bytes, sample_bytes}
use Rattle.recording.specs.declared.head.Head.{Head}
use Rattle.recording.specs.declared.head.HeadFault.TheVariants.{Short}
use Rattle.recording.proofs.Groups.{samples-group, torn_bytes-group, bytes_of, length-bytes_of, sample-bytes_of}
use Rattle.calibration.specs.declared.reading.TheConstants.{MISSING}
use Rattle.csv_recording.specs.Cells.{magnitude, reading_in, cell_sample, means_missing, without_blanks}
use Rattle.csv_recording.specs.Column.{◌>>=◌, place_of, records_of, column_in, samples_of_rows, sample_of_row}
use Rattle.csv_recording.specs.Recording.{recording_bytes, ReadsAs, ReadsAsWritten}
use Rattle.csv_recording.specs.declared.columns.ColumnFault.{ColumnFault}
use Rattle.csv_recording.specs.declared.columns.ColumnFault.TheVariants.{NoColumn, ShortRow, Cell}
use Rattle.recording.specs.declared.head.TheConstants.{HEAD_LENGTH}

-- every sample is a value of 32 bits
unfoldable pub AllFit : List ℤ → Type 0
AllFit [] = ⊤
AllFit (v ∷ w) = FitsSigned w32 v × AllFit w

samples-bytes : (w : List ℤ) → AllFit w → samples (sample_bytes w) ≡ w
unfolding AllFit
samples-bytes [] f = refl
samples-bytes (v ∷ w) f =
    samples-group (bytes_of v) (sample_bytes w) (length-bytes_of v)
    ∙ (ap (λ (x : ℤ). x ∷ samples (sample_bytes w)) (sample-bytes_of v f.0) ∙ ap (λ (l : List ℤ). v ∷ l) (samples-bytes w f.1))

torn_bytes-bytes : (w : List ℤ) → torn_bytes (sample_bytes w) ≡ 0
torn_bytes-bytes [] = refl
torn_bytes-bytes (v ∷ w) = torn_bytes-group (bytes_of v) (sample_bytes w) (length-bytes_of v) ∙ torn_bytes-bytes w

-- a head
length-head_bytes : (head : Head) → IsRecorded head → length (head_bytes head) ≡ 32
length-head_bytes head is = omega (
  arith,
  is.id,
  length-append head.id (to_le_bytes w32 head.period_us),
  length-append (head.id ++ to_le_bytes w32 head.period_us) (0 ∷ 0 ∷ 0 ∷ 0 ∷ []),
)

tail-head_bytes : (id word : List ℕ) → length id ≡ 16 → length word ≡ 4 → drop 20 (id ++ word ++ 0 ∷ 0 ∷ 0 ∷ 0 ∷ []) ≡ 0 ∷ 0 ∷ 0 ∷ 0 ∷ []
tail-head_bytes id word long four = drop_at (id ++ word) (0 ∷ 0 ∷ 0 ∷ 0 ∷ []) 20 (length-append id word ∙ omega (arith, long, four))

head-head_bytes : (head : Head) → IsRecorded head → head_in (head_bytes head) ≡ Ok head
head-head_bytes head is =
    let word = to_le_bytes w32 head.period_us in
    let zeros : List ℕ = 0 ∷ 0 ∷ 0 ∷ 0 ∷ [] in
    let id : take 16 (head.id ++ word ++ zeros) ≡ head.id = ap (take 16) (append_assoc head.id word zeros) ∙ take_at head.id
    (word ++ zeros) 16 is.id in
    let period : take 4 (drop 16 (head.id ++ word ++ zeros)) ≡ word = ap (λ (l : List ℕ). take 4 (drop 16 l))
    (append_assoc head.id word zeros) ∙ ap (take 4) (drop_at head.id (word ++ zeros) 16 is.id) in
    rw (tail-head_bytes head.id word is.id refl, id, period, from_le_bytes-to_le_bytes_4 head.period_us is.period) refl

recording_head-front : (file front : List ℕ) (rest : List ℕ) → file ≡ front ++ rest → length front ≡ 32 →
    recording_head file ≡ head_in front
recording_head-front file front rest is long =
    let all : 32 ≤ length file = omega (arith, ap length is, length-append front rest, long) in
    cond-false (nat_lt (length file) 32) (Err Short) (head_in (take HEAD_LENGTH file)) (grind (arith, nat_tests, all))
    ∙ ap head_in (ap (take HEAD_LENGTH) is ∙ take_at front rest 32 long)

-- what a column has are values of 32 bits
chosen : (b : Bool) (v n : ℕ) → (if b then Some v else None) ≡ Some n → (b ≡ true) × (v ≡ n)
chosen true v n is = (refl, cc)
chosen false v n is = absurd (cc)

magnitude-few : (digits : List ℕ) (n : ℕ) → magnitude digits ≡ Some n → n ≤ 2147483647
magnitude-few digits n is =
    let (within, same) = chosen _ (digits_value 10 digits) n is in
    let few : nat_le (digits_value 10 digits) 2147483647 ≡ true = (and_parts _ _ within).1 in
    grind (arith, nat_tests, few, same)

pos-fits : (n : ℕ) → n ≤ 2147483647 → FitsSigned w32 (pos n)
pos-fits n few = fits_signed_from_abs w32 (pos n) (omega (arith, few))

neg-fits : (n : ℕ) → n ≤ 2147483647 → FitsSigned w32 (neg_ℤ (pos n))
neg-fits zero few = fits_signed_from_abs w32 (pos 0) (omega arith)
neg-fits (suc n) few = fits_signed_from_abs w32 (negsuc n) (omega (arith, few))

missing-fits : FitsSigned w32 MISSING
missing-fits = search rules

by_magnitude : (sign : ℕ → ℤ) (digits : List ℕ) (v : ℤ) → ((n : ℕ) → n ≤ 2147483647 → FitsSigned w32 (sign n)) →
    option_map sign (magnitude digits) ≡ Some v → FitsSigned w32 v
by_magnitude sign digits v fits is = go (magnitude digits) refl is
  where
    go : (m : Option ℕ) → magnitude digits ≡ m → option_map sign m ≡ Some v → FitsSigned w32 v
    go None none is = absurd (cc)
    go (Some n) some is = subst (λ (x : ℤ). FitsSigned w32 x) (same_Some (sign n) v is) (fits n (magnitude-few digits n some))

reading-fits : (text : List ℕ) (v : ℤ) → reading_in text ≡ Some v → FitsSigned w32 v
unfolding reading_in
reading-fits [] v is = absurd (cc)
reading-fits (c ∷ digits) v is = go (c == 45) (c == 43) is
  where
    go : (minus plus : Bool) → (if minus then option_map (λ n. neg_ℤ (pos n)) (magnitude digits)
        else if plus then option_map pos (magnitude digits) else option_map pos (magnitude (c ∷ digits))) ≡ Some v → FitsSigned w32 v
    go true plus is = by_magnitude (λ n. neg_ℤ (pos n)) digits v neg-fits is
    go false true is = by_magnitude pos digits v pos-fits is
    go false false is = by_magnitude pos (c ∷ digits) v pos-fits is

cell-fits : (cell : List ℕ) (v : ℤ) → cell_sample cell ≡ Some v → FitsSigned w32 v
cell-fits cell v is = go (means_missing (without_blanks cell)) is
  where
    go : (b : Bool) → (if b then Some MISSING else reading_in (without_blanks cell)) ≡ Some v → FitsSigned w32 v
    go true is = subst (λ (x : ℤ). FitsSigned w32 x) (same_Some MISSING v is) missing-fits
    go false is = reading-fits (without_blanks cell) v is

row-fits : (place row : ℕ) (fields : List (List ℕ)) (v : ℤ) → sample_of_row place row fields ≡ Ok v → FitsSigned w32 v
row-fits place row fields v is = go (field_at fields place) is
  where
    by_cell : (cell : List ℕ) (m : Option ℤ) → cell_sample cell ≡ m → ok_or m (Cell row) ≡ Ok v → FitsSigned w32 v
    by_cell cell None none is = absurd (cc)
    by_cell cell (Some x) some is = subst (λ (y : ℤ). FitsSigned w32 y) (same_ok refl is) (cell-fits cell x some)

    go : (f : Option (List ℕ)) → (ok_or f (ShortRow row (length fields)) >>= λ cell. ok_or (cell_sample cell)
        (Cell row)) ≡ Ok v →
        FitsSigned w32 v
    go None is = absurd (cc)
    go (Some cell) is = by_cell cell (cell_sample cell) refl is

rows-fit : (place row : ℕ) (rows : List (List (List ℕ))) (w : List ℤ) → samples_of_rows place row rows ≡ Ok w → AllFit w
unfolding samples_of_rows AllFit
rows-fit place row [] w is = subst AllFit (same_ok refl is) tt
rows-fit place row (fields ∷ rows) w is =
    go (sample_of_row place row fields) refl (samples_of_rows place (row + 1) rows) (rows-fit place (row + 1) rows) is
  where
    go : (a : Result ℤ ColumnFault) → sample_of_row place row fields ≡ a → (b : Result (List ℤ) ColumnFault) →
        ((xs : List ℤ) → b ≡ Ok xs → AllFit xs)
        → (a >>= λ sample. b >>= λ samples. Ok (sample ∷ samples)) ≡ Ok w → AllFit w
    go (Err fault) first b more is = absurd (cc)
    go (Ok x) first (Err fault) more is = absurd (cc)
    go (Ok x) first (Ok xs) more is = subst AllFit (same_ok refl is) (row-fits place row fields x first, more xs refl)

column-fits : (name : List ℕ) (records : List (List (List ℕ))) (w : List ℤ) → column_in name records ≡ Ok w → AllFit w
column-fits name [] w is = absurd (cc)
column-fits name (header ∷ rows) w is = go (place_of name header) is
  where
    go : (p : Option ℕ) → (ok_or p NoColumn >>= λ place. samples_of_rows place 0 rows) ≡ Ok w → AllFit w
    go None is = absurd (cc)
    go (Some place) is = rows-fit place 0 rows w is

reads_as : (head : Head) (w : List ℤ) → IsRecorded head → AllFit w → ReadsAs (recording_bytes head w) head w
reads_as head w is fits =
    let front = length-head_bytes head is in
    let behind : drop HEAD_LENGTH (recording_bytes head w) ≡ sample_bytes w = drop_at (head_bytes head) (sample_bytes w) 32 front in
    record {
      head_is = recording_head-front (recording_bytes head w) (head_bytes head) (sample_bytes w) refl front ∙ head-head_bytes head is;
      samples_are = ap samples behind ∙ samples-bytes w fits;
      whole = ap torn_bytes behind ∙ torn_bytes-bytes w;
    }

pub reads_back : ReadsAsWritten
reads_back head name text w is column = reads_as head w is (column-fits name (records_of text) w column)
