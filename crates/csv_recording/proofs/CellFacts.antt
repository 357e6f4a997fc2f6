-- What is left of a cell when blanks and digits are taken off it.
use Rattle.std.proofs.Common.{◌≡◌, ◌≢◌, ◌-ℤ◌, ◌≤ℤ◌, FitsSigned, w32, to_z, of_z, ℤ, pos, neg_ℤ, option_map, ◌==◌, ◌&&◌, ◌+◌, ◌-◌, drop, get_or, ◌*◌, ◌<◌, ◌≤◌, ℕ, Bool, true, false, List, [], ◌∷◌, ◌++◌, take, length, Option, Some, None, if◌then◌else◌, refl, sym, ap, ◌∙◌, arith}
use Rattle.std.specs.Prelude.{nat_lt, nat_le}
use Rattle.std.specs.List.{list_all}
use Rattle.std.specs.Char.{digit_value}
use Rattle.std.specs.Str.Parse.{digits_value_after}
use Rattle.std.proofs.Math.Seq.{take-append-add}
use Rattle.std.proofs.lemmas.Int.{ints, to_z-of_z}
use Rattle.std.proofs.lemmas.Bool.{ne_eqb}
use Rattle.std.proofs.lemmas.Bool.Decides.{nat_tests}
use Rattle.std.proofs.lemmas.List.{take-append-le, take_all, take_more, length-drop, drop_more}
use Rattle.csv_recording.specs.Cells.{reading_in, is_blank, without_blanks_before, length_before_blanks, without_blanks_behind, magnitude}

length_before_blanks-blank : (text : List ℕ) (c : ℕ) → is_blank c ≡ true → length_before_blanks (text ++ c ∷ []) ≡ length_before_blanks text
unfolding length_before_blanks
length_before_blanks-blank [] c blank = rw blank refl
length_before_blanks-blank (d ∷ text) c blank = rw (length_before_blanks-blank text c blank) refl

length_before_blanks-plain : (text : List ℕ) (c : ℕ) → is_blank c ≡ false → length_before_blanks (text ++ c ∷ []) ≡ length text + 1
unfolding length_before_blanks
length_before_blanks-plain [] c plain = rw plain refl
length_before_blanks-plain (d ∷ text) c plain =
    let some : (length text + 1 == 0) ≡ false = ne_eqb (length text + 1) 0 (λ z. absurd (omega arith)) in
    let one : length (d ∷ text) + 1 ≡ (length text + 1) + 1 = omega arith in
    rw (length_before_blanks-plain text c plain, some, one) refl

length_before_blanks-le : (text : List ℕ) → length_before_blanks text ≤ length text
unfolding length_before_blanks
length_before_blanks-le [] = omega arith
length_before_blanks-le (c ∷ text) = go ((length_before_blanks text == 0) && is_blank c) (length_before_blanks-le text)
  where
    go : (b : Bool) → length_before_blanks text ≤ length text → (if b then 0 else length_before_blanks text + 1) ≤ length (c ∷ text)
    go true more = omega arith
    go false more = omega arith

pub without_blanks_behind-blank : (text : List ℕ) (c : ℕ) → is_blank c ≡ true
    → without_blanks_behind (text ++ c ∷ []) ≡ without_blanks_behind text
without_blanks_behind-blank text c blank =
    ap (λ n. take n (text ++ c ∷ [])) (length_before_blanks-blank text c blank)
    ∙ take-append-le (length_before_blanks text) text (c ∷ []) (length_before_blanks-le text)

pub without_blanks_behind-plain : (text : List ℕ) (c : ℕ) → is_blank c ≡ false → without_blanks_behind (text ++ c ∷ []) ≡ text ++ c ∷ []
without_blanks_behind-plain text c plain =
    ap (λ n. take n (text ++ c ∷ [])) (length_before_blanks-plain text c plain) ∙ take-append-add text (c ∷ []) 1

-- the number that digits spell behind those of n, up to the greatest reading
abbrev pub magnitude_after : ℕ → List ℕ → Option ℕ
magnitude_after n digits = if list_all (λ d. nat_lt (digit_value d) 10) digits && nat_le (digits_value_after 10 n digits) 2147483647 then
    Some (digits_value_after 10 n digits) else None

pub magnitude-short : (digits : List ℕ) → 0 < length digits → length digits ≤ 10 → magnitude digits ≡ magnitude_after 0 digits
magnitude-short digits some few = grind (arith, nat_tests)

pub magnitude_after-digit : (n d : ℕ) (digits : List ℕ) → nat_lt (digit_value d) 10 ≡ true
    → magnitude_after n (d ∷ digits) ≡ magnitude_after (n * 10 + digit_value d) digits
magnitude_after-digit n d digits digit = rw digit refl

digits_value_after-ge : (n : ℕ) (digits : List ℕ) → n ≤ digits_value_after 10 n digits
digits_value_after-ge n [] = omega arith
digits_value_after-ge n (d ∷ digits) = omega (arith, digits_value_after-ge (n * 10 + digit_value d) digits)

pub magnitude_after-great : (n : ℕ) (digits : List ℕ) → 2147483647 < n → magnitude_after n digits ≡ None
magnitude_after-great n digits great = go (list_all (λ d. nat_lt (digit_value d) 10) digits)
    (nat_le (digits_value_after 10 n digits) 2147483647) refl
  where
    go : (all few : Bool) → nat_le (digits_value_after 10 n digits) 2147483647 ≡ few
        → (if all && few then Some (digits_value_after 10 n digits) else None) ≡ None
    go false few is = refl
    go true false is = refl
    go true true is = let more = digits_value_after-ge n digits in absurd (grind (arith, nat_tests))

-- a text without its first byte
pub behind-first : (text : List ℕ) → take (length text - 1) (drop 1 text) ≡ drop 1 text
behind-first text = take_all (length text - 1) (drop 1 text) (omega (arith, length-drop {A = ℕ}))

pub without_blanks_before-blank : (text : List ℕ) → 1 ≤ length text → is_blank (get_or text 0 0) ≡ true
    → without_blanks_before (take (length text - 1) (drop 1 text)) ≡ without_blanks_before text
unfolding without_blanks_before
without_blanks_before-blank [] some blank = absurd (omega arith)
without_blanks_before-blank (c ∷ text) some blank = ap without_blanks_before (behind-first (c ∷ text)) ∙ sym (rw blank refl)

pub without_blanks_before-plain : (text : List ℕ) → 1 ≤ length text → is_blank (get_or text 0 0) ≡ false → without_blanks_before text ≡ text
unfolding without_blanks_before
without_blanks_before-plain [] some plain = absurd (omega arith)
without_blanks_before-plain (c ∷ text) some plain = rw plain refl

pub without_blanks_before-empty : (text : List ℕ) → length text < 1 → without_blanks_before text ≡ text
unfolding without_blanks_before
without_blanks_before-empty [] none = refl
without_blanks_before-empty (c ∷ text) none = absurd (omega arith)

-- a text by its last byte
by_last : (text : List ℕ) → 1 ≤ length text → text ≡ take (length text - 1) text ++ get_or text (length text - 1) 0 ∷ []
by_last text some =
    let n : length text ≡ (length text - 1) + 1 = omega arith in
    sym (take_all (length text) text (omega arith)) ∙ ap (λ k. take k text) n ∙ take_more text (length text - 1) 0 (omega arith)

pub without_blanks_behind-last : (text : List ℕ) → 1 ≤ length text → is_blank (get_or text (length text - 1) 0) ≡ true
    → without_blanks_behind (take (length text - 1) text) ≡ without_blanks_behind text
without_blanks_behind-last text some blank =
    sym (without_blanks_behind-blank (take (length text - 1) text) (get_or text (length text - 1) 0) blank)
    ∙ ap without_blanks_behind (sym (by_last text some))

pub without_blanks_behind-all : (text : List ℕ) → 1 ≤ length text → is_blank (get_or text (length text - 1) 0) ≡ false
    → without_blanks_behind text ≡ text
without_blanks_behind-all text some plain =
    ap without_blanks_behind (by_last text some)
    ∙ without_blanks_behind-plain (take (length text - 1) text) (get_or text (length text - 1) 0) plain ∙ sym (by_last text some)

value_of_digit : (d : ℕ) → nat_lt (digit_value d) 10 ≡ true → digit_value d ≡ d - 48
value_of_digit d digit = grind (arith, nat_tests)

-- with the digit at this place the number is above the greatest reading
pub magnitude_after-first_great : (n : ℕ) (digits : List ℕ) (i : ℕ) → i < length digits → nat_lt (digit_value (get_or digits i 0)) 10 ≡ true
    → 2147483647 < n * 10 + (get_or digits i 0 - 48) → magnitude_after n (drop i digits) ≡ None
magnitude_after-first_great n digits i inside digit great =
    let d = get_or digits i 0 in
    let value = value_of_digit d digit in
    ap (magnitude_after n) (drop_more digits i 0 inside) ∙ magnitude_after-digit n d (drop (i + 1) digits) digit
    ∙ magnitude_after-great (n * 10 + digit_value d) (drop (i + 1) digits) (omega (arith, great, value))

pub reading_in-empty : (text : List ℕ) → length text < 1 → reading_in text ≡ None
unfolding reading_in
reading_in-empty [] none = refl
reading_in-empty (c ∷ text) none = absurd (omega arith)

pub reading_in-minus : (text : List ℕ) → 1 ≤ length text → get_or text 0 0 ≡ 45
    → reading_in text ≡ option_map (λ n. neg_ℤ (pos n)) (magnitude (take (length text - 1) (drop 1 text)))
unfolding reading_in
reading_in-minus [] some minus = absurd (omega arith)
reading_in-minus (c ∷ text) some minus = rw minus
    (ap (λ digits. option_map (λ n. neg_ℤ (pos n)) (magnitude digits)) (sym (behind-first (c ∷ text))))

pub reading_in-plus : (text : List ℕ) → 1 ≤ length text → get_or text 0 0 ≡ 43
    → reading_in text ≡ option_map pos (magnitude (take (length text - 1) (drop 1 text)))
unfolding reading_in
reading_in-plus [] some plus = absurd (omega arith)
reading_in-plus (c ∷ text) some plus = rw plus (ap (λ digits. option_map pos (magnitude digits)) (sym (behind-first (c ∷ text))))

pub reading_in-plain : (text : List ℕ) → 1 ≤ length text → get_or text 0 0 ≢ 45 → get_or text 0 0 ≢ 43
    → reading_in text ≡ option_map pos (magnitude text)
unfolding reading_in
reading_in-plain [] some other_45 other_43 = absurd (omega arith)
reading_in-plain (c ∷ text) some other_45 other_43 = rw (ne_eqb c 45 other_45, ne_eqb c 43 other_43) refl

pub negated-none : (n : Option ℕ) → option_map pos n ≡ None → option_map (λ k. neg_ℤ (pos k)) n ≡ None
negated-none None e = refl
negated-none (Some k) e = cc

pub negated-some : (n : Option ℕ) (z : ℤ) → option_map pos n ≡ Some z → option_map (λ k. neg_ℤ (pos k)) n ≡ Some (neg_ℤ z)
negated-some None z e = cc
negated-some (Some k) z e = ap (option_map neg_ℤ) e

-- a reading with the other sign, as the machine has it
pub to_z-negated : (z : ℤ) → FitsSigned w32 z → pos 0 ≤ℤ z → to_z w32 (of_z w32 (pos 0 -ℤ to_z w32 (of_z w32 z))) ≡ neg_ℤ z
to_z-negated z fits sign =
    let same = to_z-of_z w32 z fits in
    let negated : pos 0 -ℤ z ≡ neg_ℤ z = omega (arith, ints) in
    let fits_negated : FitsSigned w32 (neg_ℤ z) = search (arith, ints) in
    rw (same, negated, to_z-of_z w32 (neg_ℤ z) fits_negated) refl
