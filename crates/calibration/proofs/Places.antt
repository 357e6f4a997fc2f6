-- The level of a raw value without branches, and levels that are put one behind the other.
--   place_is        the number that the steps give, where it is a level, and none elsewhere
--   levels_more     a value's level behind those before it
--   missing_more    a value more among the missing ones
--   counts_add      each value has a level, is missing or is refused
use Rattle.std.proofs.Common.{◌≡◌, ℕ, ◌+◌, ◌*◌, ◌/◌, ◌%◌, ◌^◌, ◌<◌, ◌≤◌, ◌∙◌, refl, sym, ap, true, false, Bool, List, [], ◌∷◌, ◌++◌, length, take, get_or, length-append, append-nil, arith}
use Rattle.std.specs.Prelude.{ℤ, pos, negsuc, ◌+ℤ◌, FitsSigned, Some, None, not, ◌&&◌, nat_lt, if◌then◌else◌, set}
use Rattle.std.specs.Int.{w32, w64}
use Rattle.std.specs.List.{cons_option}
use Rattle.std.proofs.Math.IntN.{◌*ℤ◌, ◌-ℤ◌}
use Rattle.std.proofs.lemmas.Bool.Decides.{nat_tests}
use Rattle.std.proofs.lemmas.List.{take_more, take_more_set, take-set}
use Rattle.calibration.specs.Level.{in_grid, class_of, stress_of, is_missing, reading_of}
use Rattle.calibration.specs.History.{history, level_in, is_missing_reading, is_refused_reading, missing_count, refused_count}
use Rattle.calibration.specs.Gain.{GainValue, IsGain}
use Rattle.calibration.specs.Grid.{GridValue, IsGrid}
use Rattle.calibration.specs.Classifier.{width_of}
use Rattle.calibration.specs.declared.reading.Reading.{Reading}
use Rattle.calibration.specs.declared.reading.Reading.TheVariants.{Missing, Refused, Level}
use Rattle.calibration.proofs.Class.{dividend_fits, class_is, level_is, refused_is}
use Rattle.calibration.proofs.History.{history-append, missing_count-append, refused_count-append}
use mir.Val.{of_z, to_z, bool_byte}

-- a reading by the two tests
by_tests : (below missing : Bool) (l : ℕ) (r : Reading) → (missing ≡ true → r ≡ Missing) → (missing ≡ false → below ≡ true → r ≡ Level l) →
    (missing ≡ false → below ≡ false → r ≡ Refused) → level_in r ≡ (if below && not missing then Some l else None)
by_tests true true l r f g h = ap level_in (f refl)
by_tests false true l r f g h = ap level_in (f refl)
by_tests true false l r f g h = ap level_in (g refl refl)
by_tests false false l r f g h = ap level_in (h refl refl)

is_present : (raw : ℤ) → FitsSigned w32 raw → is_missing raw ≡ false → of_z w32 raw ≡ 2147483648 → ⊥
is_present (pos n) f there e = let small : n < 2147483648 = f.sfits in omega (arith, e)
is_present (negsuc n) f there e =
    let small : n < 2147483648 = f.sfits in
    let last : n ≡ 2147483647 = omega (arith, e) in
    absurd (grind (arith, nat_tests, there, last))

pub place_is : (gain : GainValue) (grid : GridValue) (raw shift n x : ℤ) (u limit s m l : ℕ) (missing : Bool) → IsGain gain → IsGrid grid →
    FitsSigned w32 raw → missing ≡ is_missing raw →
    shift ≡ (gain.offset -ℤ grid.low_kpa) *ℤ pos gain.den → limit ≡ grid.classes * width_of gain grid →
    s ≡ 2 ^ 49 / width_of gain grid → m ≡ 2 ^ 112 / (width_of gain grid * s) + 1 →
    n ≡ gain.num →
    x ≡ to_z w32 (of_z w32 raw) *ℤ to_z w64 (of_z w64 n) +ℤ to_z w64 (of_z w64 shift) → FitsSigned w64 x →
    u ≡ of_z w64 (to_z w64 (of_z w64 x)) →
    l ≡ u * s % 2 ^ 64 * m / 2 ^ 112 →
    level_in (reading_of gain grid raw) ≡ (if nat_lt u limit && not missing then Some (l % 65536) else None)
place_is gain grid raw shift n x u limit s m l missing g h f k z b r t o j e a d =
    by_tests (nat_lt u limit) missing (l % 65536) (reading_of gain grid raw)
    (λ there. ap (λ b. if b then Missing else in_grid grid (class_of grid (stress_of gain raw))) (sym k ∙ there))
    (λ there below.
    let less : u < limit = grind (arith, nat_tests, below) in
    let quotient : ℕ = u * s * m / 2 ^ 112 in
    let fits : u * s < 2 ^ 59 = dividend_fits gain grid u limit s g h b r less in
    let whole : u * s % 2 ^ 64 ≡ u * s = omega (arith, fits) in
    let same : l ≡ quotient = d ∙ ap (λ y. y * m / 2 ^ 112) whole in
    let (_, inside) = class_is gain grid u limit s m quotient g h b r t refl less in
    let small : l % 65536 ≡ quotient = omega (arith, same, inside, h.classes_to) in
    sym (level_is gain grid raw shift n x u limit s m quotient g h f (is_present raw f (sym k ∙ there)) z b r t o j e a refl less)
    ∙ ap Level (sym small))
    (λ there above.
    let past : limit ≤ u = grind (arith, nat_tests, above) in
    sym (refused_is gain grid raw shift n x u limit g h f (is_present raw f (sym k ∙ there)) z b o j e a past))

-- a level behind those before it, where there is one
pub put_more : (b : Bool) (v used : ℕ) (levels before : List ℕ) → used < length levels → take used levels ≡ before →
    take (used + bool_byte b) (set levels used v) ≡ before ++ cons_option (if b then Some v else None) []
put_more true v used levels before inside is = take_more_set levels used v inside ∙ ap (λ l. l ++ v ∷ []) is
put_more false v used levels before inside is =
    ap (λ n. take n (set levels used v)) (none used) ∙ take-set levels used v ∙ is ∙ sym (append-nil before)
  where
    none : (used : ℕ) → used + 0 ≡ used
    none used = omega arith

count_more : (b : Bool) (v used : ℕ) (before : List ℕ) → used ≡ length before →
    used + bool_byte b ≡ length (before ++ cons_option (if b then Some v else None) [])
count_more true v used before is = omega (arith, is, length-append before (v ∷ []))
count_more false v used before is = omega (arith, is, ap length (append-nil before))

-- only what is missing reads so
missing_reading : (missing : Bool) (grid : GridValue) (z : ℤ) → is_missing_reading (if missing then Missing else in_grid grid z) ≡ missing
missing_reading true grid z = refl
missing_reading false grid (pos n) = in_a_grid (nat_lt n grid.classes) n
  where
    in_a_grid : (b : Bool) (n : ℕ) → is_missing_reading (if b then Level n else Refused) ≡ false
    in_a_grid true n = refl
    in_a_grid false n = refl
missing_reading false grid (negsuc n) = refl

module _ (gain : GainValue) (grid : GridValue) where
  history_more : (raws : List ℤ) (i : ℕ) (d raw : ℤ) (b : Bool) (v : ℕ) → i < length raws → raw ≡ get_or raws i d →
      level_in (reading_of gain grid raw) ≡ (if b then Some v else None) →
      history grid gain (take i raws) ++ cons_option (if b then Some v else None) [] ≡ history grid gain (take (i + 1) raws)
  history_more raws i d raw b v inside here is =
      ap (λ o. history grid gain (take i raws) ++ cons_option o []) (sym is)
      ∙ ap (λ r. history grid gain (take i raws) ++ history grid gain (r ∷ [])) here
      ∙ sym (history-append grid gain (take i raws) (get_or raws i d ∷ []))
      ∙ ap (history grid gain) (sym (take_more raws i d inside))

  pub used_more : (raws : List ℤ) (i : ℕ) (d raw : ℤ) (b : Bool) (v used : ℕ) → i < length raws → raw ≡ get_or raws i d →
      level_in (reading_of gain grid raw) ≡ (if b then Some v else None) → used ≡ length (history grid gain (take i raws)) →
      used + bool_byte b ≡ length (history grid gain (take (i + 1) raws))
  used_more raws i d raw b v used inside here is count =
      count_more b v used (history grid gain (take i raws)) count ∙ ap length (history_more raws i d raw b v inside here is)

  pub levels_more : (raws : List ℤ) (i : ℕ) (d raw : ℤ) (b : Bool) (v used : ℕ) (levels : List ℕ) → i < length raws →
      raw ≡ get_or raws i d → used < length levels →
      level_in (reading_of gain grid raw) ≡ (if b then Some v else None) → take used levels ≡ history grid gain (take i raws) →
      take (used + bool_byte b) (set levels used v) ≡ history grid gain (take (i + 1) raws)
  levels_more raws i d raw b v used levels inside here room is before =
      put_more b v used levels (history grid gain (take i raws)) room before ∙ history_more raws i d raw b v inside here is

  pub missing_more : (raws : List ℤ) (i : ℕ) (d raw : ℤ) (missing : ℕ) → i < length raws → raw ≡ get_or raws i d →
      missing ≡ missing_count grid gain (take i raws) →
      missing + bool_byte (is_missing raw) ≡ missing_count grid gain (take (i + 1) raws)
  missing_more raws i d raw missing inside here is =
      let one : missing_count grid gain (raw ∷ []) ≡ bool_byte (is_missing raw) =
      ap (λ b. 0 + (if b then 1 else 0)) (missing_reading (is_missing raw) grid (class_of grid (stress_of gain raw))) ∙ zero_or_one
      (is_missing raw) in
      ap (λ n. n + bool_byte (is_missing raw)) is ∙ ap (λ n. missing_count grid gain (take i raws) + n) (sym one)
      ∙ ap (λ r. missing_count grid gain (take i raws) + missing_count grid gain (r ∷ [])) here
      ∙ sym (missing_count-append grid gain (take i raws) (get_or raws i d ∷ []))
      ∙ ap (missing_count grid gain) (sym (take_more raws i d inside))
    where
      zero_or_one : (b : Bool) → 0 + (if b then 1 else 0) ≡ bool_byte b
      zero_or_one true = refl
      zero_or_one false = refl

  -- each value has a level, is missing or is refused
  one_each : (r : Reading) → length (cons_option (level_in r) []) + (0 + (if is_missing_reading r then 1 else 0)) +
      (0 + (if is_refused_reading r then 1 else 0)) ≡ 1
  one_each Missing = refl
  one_each Refused = refl
  one_each (Level l) = refl

  pub counts_add : (raws : List ℤ) → length (history grid gain raws) + missing_count grid gain raws + refused_count grid gain
      raws ≡ length raws
  counts_add [] = refl
  counts_add (raw ∷ raws) =
      let first : length (history grid gain (raw ∷ [])) + missing_count grid gain (raw ∷ []) + refused_count grid gain (raw ∷ []) ≡ 1 =
      one_each (reading_of gain grid raw) in
      let others = counts_add raws in
      let levels : length (history grid gain (raw ∷ raws)) ≡ length (history grid gain (raw ∷ [])) + length (history grid gain raws) =
      ap length (history-append grid gain (raw ∷ []) raws) ∙ length-append (history grid gain (raw ∷ [])) (history grid gain raws) in
      omega (arith, first, others, levels, missing_count-append grid gain (raw ∷ []) raws, refused_count-append grid gain (raw ∷ []) raws)
