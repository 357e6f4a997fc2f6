-- The cell of a sample means the sample.
use Rattle.std.proofs.Common.{◌≡◌, ◌≢◌, ℕ, suc, ◌<◌, ◌≤◌, Bool, true, false, ◌==◌, ◌&&◌, ℤ, pos, negsuc, neg_ℤ, List, [], ◌∷◌, length, Some, refl, inl, inr, arith, decimal, FitsSigned, w32, lt-ltb, le-leb, ne_eqb, eqb-true}
use Rattle.std.specs.List.{list_any}
use Rattle.std.specs.Char.{digit_value}
use Rattle.std.specs.Str.Parse.{AllDigits, digits_value}
use Rattle.std.proofs.lemmas.Bool.{cases_Bool, eqb-false}
use Rattle.std.proofs.lemmas.Bool.Decides.{nat_tests}
use Rattle.std.proofs.lemmas.Fmt.{decimal_is_IsNumeral, length-decimal-le}
use Rattle.std.proofs.lemmas.List.{take_all}
use Rattle.std.proofs.lemmas.Str.Parse.{digit_from_value}
use Rattle.lemmas.proofs.Lists.{list_all-digits}
use Rattle.calibration.specs.Level.{is_missing}
use Rattle.calibration.specs.declared.reading.TheConstants.{MISSING}
use Rattle.csv_recording.specs.Cells.{is_blank, means_missing, magnitude, reading_in, cell_sample, cell_text, without_blanks, without_blanks_before, length_before_blanks}

-- digits that spell a magnitude
record Spells (ds : List ℕ) (n : ℕ) : Type 0 where
  pub digits : AllDigits 10 ds
  pub some : 0 < length ds
  pub few : length ds ≤ 10
  pub value : digits_value 10 ds ≡ n
  pub small : n ≤ 2147483647

decimal_spells : (n : ℕ) → n ≤ 2147483647 → Spells (decimal n) n
decimal_spells n small =
    let k = decimal_is_IsNumeral n (omega arith) in
    record {
      digits = k.0.1;
      some = k.0.0;
      few = length-decimal-le 10 n (omega arith) (omega arith) (omega arith);
      value = k.1;
      small = small;
    }

-- a text with no blank in it stands

pub stands_before : (text : List ℕ) → list_any is_blank text ≡ false → without_blanks_before text ≡ text
unfolding without_blanks_before
stands_before [] h = refl
stands_before (c ∷ text) h = elim (cases_Bool (is_blank c)) [
  | inl blank ↦ cc (rw blank at h)
  | inr plain ↦ rw plain refl
]

and-false : (b : Bool) → (b && false) ≡ false
and-false true = refl
and-false false = refl

length_stands : (text : List ℕ) → list_any is_blank text ≡ false → length_before_blanks text ≡ length text
unfolding length_before_blanks
length_stands [] h = refl
length_stands (c ∷ text) h = elim (cases_Bool (is_blank c)) [
  | inl blank ↦ cc (rw blank at h)
  | inr plain ↦
      let rest = length_stands text (rw plain at h) in
      rw (plain, rest, and-false (length text == 0)) (omega arith)
]

stands : (text : List ℕ) → list_any is_blank text ≡ false → without_blanks text ≡ text
stands text h =
    rw (stands_before text h, length_stands text h) (take_all (length text) text (omega arith))

plain_digit : (c : ℕ) → digit_value c < 10 → is_blank c ≡ false
plain_digit c h =
    let k = digit_from_value c h in
    let blank : (c == 32) ≡ false = ne_eqb c 32 (λ e. omega (arith, k)) in
    let tab : (c == 9) ≡ false = ne_eqb c 9 (λ e. omega (arith, k)) in
    rw (blank, tab) refl

plain_digits : (ds : List ℕ) → AllDigits 10 ds → list_any is_blank ds ≡ false
plain_digits [] h = refl
plain_digits (c ∷ ds) h = rw (plain_digit c h.0, plain_digits ds h.1) refl

magnitude_is : (ds : List ℕ) (n : ℕ) → Spells ds n → magnitude ds ≡ Some n
magnitude_is ds n s =
    let some = lt-ltb 0 (length ds) s.some in
    let few = le-leb (length ds) 10 s.few in
    let small = le-leb n 2147483647 s.small in
    rw (some, few, list_all-digits ds s.digits, s.value, small) refl

-- what begins with no `N` is not `NaN`
means_reading : (c : ℕ) (text : List ℕ) → c ≢ 78 → means_missing (c ∷ text) ≡ false
means_reading c text n =
    let some : (suc (length text) == 0) ≡ false = ne_eqb (suc (length text)) 0 (λ e. cc e) in
    rw (some, ne_eqb c 78 n) refl

reads_plain : (ds : List ℕ) (n : ℕ) → Spells ds n → cell_sample ds ≡ Some (pos n)
unfolding reading_in
reads_plain [] n s = absurd (omega (arith, s.some))
reads_plain (c ∷ ds) n s =
    let k = digit_from_value c s.digits.0 in
    let text = stands (c ∷ ds) (plain_digits (c ∷ ds) s.digits) in
    let here = means_reading c ds (λ e. omega (arith, k)) in
    let minus : (c == 45) ≡ false = ne_eqb c 45 (λ e. omega (arith, k)) in
    let plus : (c == 43) ≡ false = ne_eqb c 43 (λ e. omega (arith, k)) in
    rw (text, here, minus, plus, magnitude_is (c ∷ ds) n s) refl

reads_minus : (ds : List ℕ) (n : ℕ) → Spells ds n → cell_sample (45 ∷ ds) ≡ Some (neg_ℤ (pos n))
unfolding reading_in
reads_minus ds n s =
    let text = stands (45 ∷ ds) (plain_digits ds s.digits) in
    rw (text, means_reading 45 ds (λ e. omega (arith, e)), magnitude_is ds n s) refl

reads_missing : cell_sample (cell_text MISSING) ≡ Some MISSING
unfolding without_blanks_before length_before_blanks
reads_missing = refl

pub cell_back : (z : ℤ) → FitsSigned w32 z → cell_sample (cell_text z) ≡ Some z
cell_back (pos n) f =
    let small : n < 2147483648 = f.sfits in
    reads_plain (decimal n) n (decimal_spells n (omega arith))
cell_back (negsuc n) f = elim (cases_Bool (n == 2147483647)) [
  | inl least ↦ rw (eqb-true n 2147483647 least) reads_missing
  | inr other ↦
      let small : n < 2147483648 = f.sfits in
      let no = eqb-false n 2147483647 other in
      let given : is_missing (negsuc n) ≡ false = grind (arith, nat_tests, no) in
      rw given (reads_minus (decimal (suc n)) (suc n) (decimal_spells (suc n) (omega (arith, no))))
]
