-- A sheet's columns are what it was made of.
use Rattle.std.proofs.Common.{◌≡◌, ℕ, zero, suc, ◌+◌, ◌-◌, ◌<◌, ◌≤◌, true, false, ℤ, List, [], ◌∷◌, length, map, replicate, slice_index_or, All, IsAscii, bytes_eq, FitsSigned, w32, Some, Ok, refl, ap, ◌∙◌, arith}
use Rattle.std.specs.List.{IsDistinct, AllByRecursion, position_from}
use Rattle.std.proofs.Math.Facts.{sfits_lit}
use Rattle.std.proofs.lemmas.Slice.Eq.{bytes_eq-Decides}
use Rattle.csv.specs.Records.{field_at}
use Rattle.csv.specs.Writing.{read_back}
use Rattle.calibration.specs.declared.reading.TheConstants.{MISSING}
use Rattle.csv_recording.specs.Cells.{cell_text}
use Rattle.csv_recording.specs.Column.{records_of, samples_of_rows}
use Rattle.csv_recording.specs.Sheet.{longest, cells_at, rows_from, sheet_rows, sheet_text, padded_samples}
use Rattle.csv_recording.specs.Back.{ReadsBack}
use Rattle.csv_recording.proofs.CellBack.{cell_back}
use Rattle.csv_recording.proofs.Written.{records_back, sheet_begins}

-- the place of a name among names that are all different

same_bytes : (text : List ℕ) → bytes_eq text text ≡ true
same_bytes text = (bytes_eq-Decides text text).1 refl

apart : (name : List ℕ) (names : List (List ℕ)) (i : ℕ) → i < length names → AllByRecursion (λ other. bytes_eq name other ≡ false) names
    → bytes_eq name (slice_index_or names i []) ≡ false
apart name [] i lt h = absurd (omega arith)
apart name (other ∷ names) zero lt h = h.0
apart name (other ∷ names) (suc i) lt h = apart name names i (omega arith) h.1

place_is : (names : List (List ℕ)) (g k n : ℕ) → k + g ≡ n → g < length names → IsDistinct bytes_eq names
    → position_from (λ field. bytes_eq field (slice_index_or names g [])) k names ≡ Some n
unfolding IsDistinct
place_is [] g k n at lt d = absurd (omega arith)
place_is (name ∷ names) zero k n at lt d = rw (same_bytes name) (ap Some (omega arith))
place_is (name ∷ names) (suc g) k n at lt d =
    rw (apart name names g (omega arith) d.0) (place_is names g (k + 1) n (omega arith) (omega arith) d.1)

-- the samples of so many rows from a number on
unfoldable samples_from : List ℤ → ℕ → ℕ → List ℤ
samples_from samples i zero = []
samples_from samples i (suc n) = slice_index_or samples i MISSING ∷ samples_from samples (i + 1) n

cell_in : (i : ℕ) (recordings : List (List ℤ)) (g : ℕ) → g < length recordings
    → field_at (cells_at i recordings) g ≡ Some (cell_text (slice_index_or (slice_index_or recordings g []) i MISSING))
unfolding field_at
cell_in i [] g lt = absurd (omega arith)
cell_in i (samples ∷ recordings) zero lt = refl
cell_in i (samples ∷ recordings) (suc g) lt = cell_in i recordings g (omega arith)

-- a recording that has ended has a reading that is missing
sample_fits : (samples : List ℤ) (i : ℕ) → All (FitsSigned w32) samples → FitsSigned w32 (slice_index_or samples i MISSING)
sample_fits [] i h = sfits_lit tt
sample_fits (sample ∷ samples) zero h = h 0 MISSING (omega arith)
sample_fits (sample ∷ samples) (suc i) h = sample_fits samples i (λ k d lt. h (suc k) d (omega arith))

samples_are : (recordings : List (List ℤ)) (g row i n : ℕ) → g < length recordings → All (All (FitsSigned w32)) recordings
    → samples_of_rows g row (rows_from recordings i n) ≡ Ok (samples_from (slice_index_or recordings g []) i n)
unfolding samples_of_rows rows_from samples_from
samples_are recordings g row i zero lt h = refl
samples_are recordings g row i (suc n) lt h =
    let here = cell_in i recordings g lt in
    let own = slice_index_or recordings g [] in
    let sample = cell_back (slice_index_or own i MISSING) (sample_fits own i (h g [] lt)) in
    let more = samples_are recordings g (row + 1) (i + 1) n lt h in
    rw (here, sample, more) refl

-- the samples from the first on are those of the recording, and then missing ones

behind_first : (sample : ℤ) (samples : List ℤ) (i n : ℕ) → samples_from (sample ∷ samples) (suc i) n ≡ samples_from samples i n
unfolding samples_from
behind_first sample samples i zero = refl
behind_first sample samples i (suc n) =
    let next : suc i + 1 ≡ suc (i + 1) = omega arith in
    rw next (ap (λ rest. slice_index_or samples i MISSING ∷ rest) (behind_first sample samples (i + 1) n))

none_left : (i n : ℕ) → samples_from [] i n ≡ replicate n MISSING
unfolding samples_from
none_left i zero = refl
none_left i (suc n) = ap (λ rest. MISSING ∷ rest) (none_left (i + 1) n)

padded_is : (samples : List ℤ) (n : ℕ) → length samples ≤ n → samples_from samples 0 n ≡ padded_samples samples n
unfolding samples_from
padded_is [] n le = let all : n - 0 ≡ n = omega arith in rw all (none_left 0 n)
padded_is (sample ∷ samples) zero le = absurd (omega arith)
padded_is (sample ∷ samples) (suc n) le =
    let left : suc n - suc (length samples) ≡ n - length samples = omega arith in
    rw left (ap (λ rest. sample ∷ rest) (behind_first sample samples 0 n ∙ padded_is samples n (omega arith)))

longest_covers : (recordings : List (List ℤ)) (g : ℕ) → length (slice_index_or recordings g []) ≤ longest recordings
unfolding longest
longest_covers [] g = omega arith
longest_covers (samples ∷ recordings) zero = omega arith
longest_covers (samples ∷ recordings) (suc g) = omega (arith, longest_covers recordings g)

-- rows of a gauge or more are no blank lines
rows_stay : (samples : List ℤ) (recordings : List (List ℤ)) (i n : ℕ)
    → map read_back (rows_from (samples ∷ recordings) i n) ≡ rows_from (samples ∷ recordings) i n
unfolding rows_from
rows_stay samples recordings i zero = refl
rows_stay samples recordings i (suc n) = ap (λ rest. cells_at i (samples ∷ recordings) ∷ rest) (rows_stay samples recordings (i + 1) n)

records_are_rows : (names : List (List ℕ)) (recordings : List (List ℤ)) → 0 < length names → length names ≡ length recordings
    → All IsAscii names → records_of (sheet_text names recordings) ≡ sheet_rows names recordings
records_are_rows [] recordings some pairs ascii = absurd (omega arith)
records_are_rows (name ∷ names) [] some pairs ascii = absurd (omega (arith, pairs))
records_are_rows (name ∷ names) (samples ∷ recordings) some pairs ascii =
    records_back _ (sheet_begins name names _ (ascii 0 [] (omega arith)))
    ∙ ap (λ rows. (name ∷ names) ∷ rows) (rows_stay samples recordings 0 (longest (samples ∷ recordings)))

pub reads_back : ReadsBack
reads_back names recordings g h lt =
    let small : g < length recordings = omega (arith, h.pairs) in
    let rows = records_are_rows names recordings (omega arith) h.pairs h.ascii in
    let place = place_is names g 0 g (omega arith) lt h.distinct in
    let samples = samples_are recordings g 0 0 (longest recordings) small h.samples in
    let own = padded_is (slice_index_or recordings g []) (longest recordings) (longest_covers recordings g) in
    rw (rows, place, samples, own) refl
