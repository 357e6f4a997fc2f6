-- A sample as the text of a cell.
--   without_blanks   a text without the blanks and tabs at both ends
--   cell_sample      the sample that a cell means
--   cell_text        the cell of a sample
use Rattle.std.specs.Prelude.{ℕ, ℤ, pos, neg_ℤ, ◌==◌, ◌&&◌, ◌||◌, ◌+◌, nat_lt, nat_le, Bool, if◌then◌else◌, List, [], ◌∷◌, take, length, codes, Option, Some, None, option_map}
use Rattle.std.specs.Fmt.{signed_decimal}
use Rattle.std.specs.List.{list_all}
use Rattle.std.specs.Char.{digit_value}
use Rattle.std.specs.Str.{bytes_eq}
use Rattle.std.specs.Str.Parse.{digits_value}
use Rattle.calibration.specs.Level.{is_missing}
use Rattle.calibration.specs.declared.reading.TheConstants.{MISSING}
use Rattle.csv_recording.specs.declared.cells.TheConstants.{MAX_DIGITS, MAX_MAGNITUDE}

-- a blank or a tab
abbrev pub is_blank : ℕ → Bool
is_blank c = (c == 32) || (c == 9)

unfoldable pub without_blanks_before : List ℕ → List ℕ
without_blanks_before [] = []
without_blanks_before (c ∷ text) = if is_blank c then without_blanks_before text else c ∷ text

-- how many bytes come before the blanks and tabs at the end
unfoldable pub length_before_blanks : List ℕ → ℕ
length_before_blanks [] = 0
length_before_blanks (c ∷ text) =
    if (length_before_blanks text == 0) && is_blank c then 0 else length_before_blanks text + 1

abbrev pub without_blanks_behind : List ℕ → List ℕ
without_blanks_behind text = take (length_before_blanks text) text

abbrev pub without_blanks : List ℕ → List ℕ
without_blanks text = without_blanks_behind (without_blanks_before text)

-- 1 to 10 decimal digits
abbrev pub is_short_numeral : List ℕ → Bool
is_short_numeral digits =
    nat_lt 0 (length digits) && nat_le (length digits) MAX_DIGITS && list_all (λ d. nat_lt (digit_value d) 10) digits

-- the number that they spell, up to the greatest reading
abbrev pub magnitude : List ℕ → Option ℕ
magnitude digits = if is_short_numeral digits && nat_le (digits_value 10 digits) MAX_MAGNITUDE
    then Some (digits_value 10 digits) else None

-- a reading, with its sign or without one
unfoldable pub reading_in : List ℕ → Option ℤ
reading_in [] = None
reading_in (c ∷ digits) =
    if c == 45 then option_map (λ n. neg_ℤ (pos n)) (magnitude digits)
    else if c == 43 then option_map pos (magnitude digits)
    else option_map pos (magnitude (c ∷ digits))

-- nothing, or NaN
abbrev pub means_missing : List ℕ → Bool
means_missing text = (length text == 0) || bytes_eq text (codes "NaN")

abbrev pub cell_sample : List ℕ → Option ℤ
cell_sample cell = if means_missing (without_blanks cell) then Some MISSING else reading_in (without_blanks cell)

abbrev pub cell_text : ℤ → List ℕ
cell_text sample = if is_missing sample then codes "NaN" else signed_decimal sample
