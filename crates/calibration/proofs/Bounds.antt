-- Raw values outside the bounds of a classifier have no level.
--   placed          a raw value as a number from the least one on
--   within_bounds   a raw value whose stress is from the lower end to the limit lies within the bounds
--   outside_bounds  one that lies outside them has no level
--   no_level_more   values without a level leave the history as it is
use Rattle.std.proofs.Common.{◌≡◌, ℕ, ◌+◌, ◌-◌, ◌*◌, ◌/◌, ◌<◌, ◌≤◌, ◌∙◌, refl, sym, ap, true, false, Bool, List, [], ◌∷◌, ◌++◌, length, take, drop, get_or, min, inl, inr, length-append, arith}
use Rattle.std.specs.Prelude.{ℤ, unsigned_abs, ◌||◌, ◌&&◌, pos, negsuc, ◌+ℤ◌, ◌≤ℤ◌, ◌<ℤ◌, ◌⊎◌, FitsSigned, None, nat_lt, if◌then◌else◌}
use Rattle.std.specs.Int.{w32, w64, int_max}
use Rattle.std.proofs.Math.IntN.{◌*ℤ◌, ◌-ℤ◌}
use Rattle.std.proofs.Math.Nat.{div-le_of_le-mul}
use Rattle.std.proofs.lemmas.Nat.{le-div}
use Rattle.std.proofs.lemmas.Int.{ints, clamps, by_lt_z, to_z-of_z, unsigned_abs-mul, fits_signed_from_abs}
use Rattle.std.proofs.lemmas.Bool.Decides.{nat_tests}
use Rattle.std.proofs.Math.Seq.{take-add, take-append-add}
use Rattle.std.proofs.lemmas.List.{take_more, take-take, length-take-le}
use Rattle.std.proofs.lemmas.Slice.{take-put_mid}
use Rattle.lemmas.proofs.Integers.{abs-sub}
use Rattle.std.specs.List.{cons_option}
use Rattle.calibration.specs.Gain.{GainValue, IsGain}
use Rattle.calibration.specs.Grid.{GridValue, IsGrid}
use Rattle.calibration.specs.Classifier.{width_of}
use Rattle.calibration.specs.Level.{floor_div, in_grid, class_of, stress_of, is_missing, reading_of}
use Rattle.calibration.specs.History.{history, level_in}
use Rattle.calibration.specs.declared.grid.TheConstants.{STEP_KPA}
use Rattle.calibration.specs.declared.reading.Reading.{Reading}
use Rattle.calibration.specs.declared.reading.Reading.TheVariants.{Missing, Refused, Level}
use Rattle.calibration.proofs.Class.{class_by_one_floor, width_positive}
use Rattle.calibration.proofs.History.{history-append}
use Rattle.calibration.proofs.Places.{counts_add}
use borrow.Rule.Slice.PartMut.{put_mid}
use lib.Signed.{le_z}
use mir.Val.{of_z, to_z}

record IsPlace (raw : ℤ) (u : ℕ) : Type 0 where
  is : raw +ℤ pos 2147483648 ≡ pos u
  few : u ≤ 4294967295

placed : (raw : ℤ) → FitsSigned w32 raw → (u : ℕ) × IsPlace raw u
placed (pos n) f =
    let small : n < 2147483648 = f.sfits in (n + 2147483648, record { is = omega (arith, ints); few = omega arith })
placed (negsuc n) f =
    let small : n < 2147483648 = f.sfits in (2147483647 - n, record { is = omega (arith, ints); few = omega arith })

product : (raw : ℤ) (k u : ℕ) → raw +ℤ pos 2147483648 ≡ pos u → raw *ℤ pos k +ℤ pos (2147483648 * k) ≡ pos (u * k)
product (pos n) k u e =
    let sum : n + 2147483648 ≡ u = omega (arith, ints) in omega (arith, ints, ap (λ y. y * k) sum)
product (negsuc n) k u e =
    let sum : n + 1 + u ≡ 2147483648 = omega (arith, ints) in omega (arith, ints, ap (λ y. y * k) sum)

pub positive : (num : ℤ) (k : ℕ) → FitsSigned w64 num → pos 0 <ℤ num → k ≡ of_z w64 (to_z w64 (of_z w64 num)) → (num ≡ pos k) × (0 < k)
positive (pos n) k f g e =
    let small : n < 9223372036854775808 = f.sfits in
    let same : k ≡ of_z w64 (pos n) = e ∙ ap (of_z w64) (to_z-of_z w64 (pos n) f) in
    let is : n ≡ k = omega (arith, same) in (ap pos is, omega (arith, ints))
positive (negsuc n) k f g e = absurd (omega (arith, ints))

-- how far the stress of the least raw value lies below the lower end, as it is computed
top : (x max : ℤ) (below : ℕ) → FitsSigned w64 x → max ≡ int_max x (pos 0) → below ≡ of_z w64 (to_z w64 (of_z w64 max)) →
    pos below ≡ int_max x (pos 0)
top (pos n) max below f e b =
    let is : int_max (pos n) (pos 0) ≡ pos n = omega (arith, ints, clamps) in
    let small : n < 9223372036854775808 = f.sfits in
    let same : below ≡ of_z w64 (pos n) = b ∙ ap (λ z. of_z w64 (to_z w64 (of_z w64 z))) (e ∙ is) ∙ ap (of_z w64)
    (to_z-of_z w64 (pos n) f) in
    let value : below ≡ n = omega (arith, same) in ap pos value ∙ sym is
top (negsuc n) max below f e b =
    let is : int_max (negsuc n) (pos 0) ≡ pos 0 = omega (arith, ints, clamps) in
    let value : below ≡ 0 = b ∙ ap (λ z. of_z w64 (to_z w64 (of_z w64 z))) (e ∙ is) in ap pos value ∙ sym is

pub below_is : (num shift max : ℤ) (below : ℕ) → unsigned_abs num ≤ 1000000000 → unsigned_abs shift ≤ 2000000000000000 →
    max ≡ int_max (to_z w64 (of_z w64 (to_z w64 (of_z w64 (to_z w64 (of_z w64 num) *ℤ pos 2147483648)) -ℤ to_z w64 (of_z w64 shift))))
    (pos 0) →
    below ≡ of_z w64 (to_z w64 (of_z w64 max)) → pos below ≡ int_max (num *ℤ pos 2147483648 -ℤ shift) (pos 0)
below_is num shift max below g h e b =
    let product : unsigned_abs (num *ℤ pos 2147483648) ≤ 2147483648000000000 = omega (arith, unsigned_abs-mul num (pos 2147483648)) in
    let apart : unsigned_abs (num *ℤ pos 2147483648 -ℤ shift) ≤ 2147483648000000000 + 2000000000000000 = abs-sub (num *ℤ pos 2147483648)
    shift 2147483648000000000 2000000000000000 product h in
    let fits : FitsSigned w64 (num *ℤ pos 2147483648 -ℤ shift) = fits_signed_from_abs w64 _ (omega arith) in
    let to : ℤ → ℤ = λ z. to_z w64 (of_z w64 z) in
    let same : to (to (to num *ℤ pos 2147483648) -ℤ to shift) ≡ num *ℤ pos 2147483648 -ℤ shift =
    ap (λ y. to (to (y *ℤ pos 2147483648) -ℤ to shift)) (to_z-of_z w64 num (fits_signed_from_abs w64 num (omega arith)))
    ∙ ap (λ y. to (y -ℤ to shift)) (to_z-of_z w64 (num *ℤ pos 2147483648) (fits_signed_from_abs w64 _ (omega arith)))
    ∙ ap (λ y. to (num *ℤ pos 2147483648 -ℤ y)) (to_z-of_z w64 shift (fits_signed_from_abs w64 shift (omega arith)))
    ∙ to_z-of_z w64 (num *ℤ pos 2147483648 -ℤ shift) fits in
    top (num *ℤ pos 2147483648 -ℤ shift) max below fits (e ∙ ap (λ y. int_max y (pos 0)) same) b

-- the places of the bounds, by a gain that rises by k
pub within_bounds : (raw num shift first last : ℤ) (k below limit : ℕ) → FitsSigned w32 raw → num ≡ pos k → 0 < k →
    pos below ≡ int_max (num *ℤ pos 2147483648 -ℤ shift) (pos 0) →
    first +ℤ pos 2147483648 ≡ pos (min (below / k) 4294967295) → last +ℤ pos 2147483648 ≡ pos (min ((limit + below) / k) 4294967295) →
    pos 0 ≤ℤ (raw *ℤ num +ℤ shift) → (raw *ℤ num +ℤ shift) <ℤ pos limit → (first ≤ℤ raw) × (raw ≤ℤ last)
within_bounds raw num shift first last k below limit f e p b g h low high =
    let (u, at) = placed raw f in
    let times : raw *ℤ num +ℤ pos (2147483648 * k) ≡ pos (u * k) = ap (λ y. raw *ℤ y +ℤ pos (2147483648 * k)) e ∙ product raw k u at.is in
    let least : num *ℤ pos 2147483648 ≡ pos (2147483648 * k) = ap (λ y. y *ℤ pos 2147483648) e ∙ omega (arith, ints) in
    let most : pos below ≡ int_max (pos (2147483648 * k) -ℤ shift) (pos 0) = b ∙ ap (λ y. int_max (y -ℤ shift) (pos 0)) least in
    let above : below ≤ u * k = omega (arith, ints, clamps) in
    let inside : u * k ≤ limit + below = omega (arith, ints, clamps) in
    let from : below / k ≤ u = div-le_of_le-mul k (omega arith) in
    let to : u ≤ (limit + below) / k = le-div u (limit + below) k p inside in
    (omega (arith, ints, at.is, at.few), omega (arith, ints, at.is, at.few))

refused_outside : (grid : GridValue) (x : ℤ) (w : ℕ) → 1 ≤ w → (x <ℤ pos 0) ⊎ (pos (grid.classes * w) ≤ℤ x) →
    level_in (in_grid grid (floor_div x w)) ≡ None
refused_outside grid (pos n) w p (inl l) = absurd (omega (arith, ints))
refused_outside grid (pos n) w p (inr l) =
    let far : grid.classes ≤ n / w = le-div grid.classes n w (omega arith) (omega (arith, ints)) in
    let not_below : nat_lt (n / w) grid.classes ≡ false = grind (arith, nat_tests, far) in
    ap (λ b. level_in (if b then Level (n / w) else Refused)) not_below
refused_outside grid (negsuc n) w p h = refl

unless_missing : (missing : Bool) (r : Reading) → level_in r ≡ None → level_in (if missing then Missing else r) ≡ None
unless_missing true r e = refl
unless_missing false r e = e

module _ (gain : GainValue) (grid : GridValue) (raw shift : ℤ) (limit : ℕ) (g : IsGain gain) (h : IsGrid grid)
    (e : shift ≡ (gain.offset -ℤ grid.low_kpa) *ℤ pos gain.den) (b : limit ≡ grid.classes * width_of gain grid) where
  none_outside : ((raw *ℤ gain.num +ℤ shift) <ℤ pos 0) ⊎ (pos limit ≤ℤ (raw *ℤ gain.num +ℤ shift)) →
      level_in (reading_of gain grid raw) ≡ None
  none_outside o =
      unless_missing (is_missing raw) (in_grid grid (class_of grid (stress_of gain raw)))
      (ap (λ z. level_in (in_grid grid z)) (class_by_one_floor gain grid raw shift g.den_from e)
      ∙ refused_outside grid (raw *ℤ gain.num +ℤ shift) (gain.den * (grid.w2 * STEP_KPA)) (width_positive gain grid g h) (by o))
    where
      by : ((raw *ℤ gain.num +ℤ shift) <ℤ pos 0) ⊎ (pos limit ≤ℤ (raw *ℤ gain.num +ℤ shift)) →
          ((raw *ℤ gain.num +ℤ shift) <ℤ pos 0) ⊎ (pos (grid.classes * (gain.den * (grid.w2 * STEP_KPA))) ≤ℤ (raw *ℤ gain.num +ℤ shift))
      by (inl l) = inl l
      by (inr m) = inr (omega (arith, ints))

  -- a raw value outside has no level
  pub outside_bounds : (first last : ℤ) → (pos 0 ≤ℤ (raw *ℤ gain.num +ℤ shift) → (raw *ℤ gain.num +ℤ shift) <ℤ pos limit →
      (first ≤ℤ raw) × (raw ≤ℤ last)) →
      (raw <ℤ first) ⊎ (last <ℤ raw) → level_in (reading_of gain grid raw) ≡ None
  outside_bounds first last within o =
      by_lt_z (raw *ℤ gain.num +ℤ shift) (pos 0) (λ low. none_outside (inl low)) (λ from.
      by_lt_z (raw *ℤ gain.num +ℤ shift) (pos limit) (λ to. absurd (against o (within from to))) (λ past. none_outside (inr past)))
    where
      against : (raw <ℤ first) ⊎ (last <ℤ raw) → (first ≤ℤ raw) × (raw ≤ℤ last) → ⊥
      against (inl l) (a, b) = omega (arith, ints)
      against (inr l) (a, b) = omega (arith, ints)

pub no_level_more : (gain : GainValue) (grid : GridValue) (raws : List ℤ) (i : ℕ) (d raw : ℤ) → i < length raws → raw ≡ get_or raws i d →
    level_in (reading_of gain grid raw) ≡ None → history grid gain (take i raws) ≡ [] → history grid gain (take (i + 1) raws) ≡ []
no_level_more gain grid raws i d raw inside here none before =
    ap (history grid gain) (take_more raws i d inside)
    ∙ history-append grid gain (take i raws) (get_or raws i d ∷ [])
    ∙ ap (λ l. l ++ history grid gain (get_or raws i d ∷ [])) before
    ∙ ap (λ r. history grid gain (r ∷ [])) (sym here)
    ∙ ap (λ o. cons_option o []) none

neither : (some a b : Bool) → some || (a && b) ≡ false → (some ≡ false) × ((a ≡ false) ⊎ (b ≡ false))
neither false false b e = (refl, inl refl)
neither false true false e = (refl, inr refl)
neither false true true e = absurd (grind (arith, e))
neither true a b e = absurd (grind (arith, e))

pub none_within : (some : Bool) (first raw last f r l : ℤ) → f ≡ first → r ≡ raw → l ≡ last → some || (le_z f r && le_z r l) ≡ false →
    (some ≡ false) × ((raw <ℤ first) ⊎ (last <ℤ raw))
none_within some first raw last f r l a b c e =
    let (none, side) = neither some (le_z f r) (le_z r l) e in (none, by side)
  where
    by : (le_z f r ≡ false) ⊎ (le_z r l ≡ false) → (raw <ℤ first) ⊎ (last <ℤ raw)
    by (inl s) = inl (omega (arith, ints, a, b, s))
    by (inr s) = inr (omega (arith, ints, b, c, s))

-- the levels of a stretch are put behind those before it
put_behind : (used r : ℕ) (levels new before more : List ℕ) → used ≤ length levels → r ≤ length new →
    take used levels ≡ before → take r new ≡ more → take (used + r) (put_mid used (length levels - used) levels new) ≡ before ++ more
put_behind used r levels new before more inside few b m =
    let k : ℕ = length levels - used in
    let whole : take (used + length new) (put_mid used k levels new) ≡ take used levels ++ new = take-put_mid used k levels new
    (used + length new) refl inside in
    let count : used ≡ length (take used levels) = sym (length-take-le used levels inside) in
    sym (take-take (used + r) (used + length new) (put_mid used k levels new) (omega arith))
    ∙ ap (take (used + r)) whole
    ∙ ap (λ n. take (n + r) (take used levels ++ new)) count
    ∙ take-append-add (take used levels) new r
    ∙ ap (λ l. l ++ take r new) b ∙ ap (λ l. before ++ l) m

-- a stretch behind those before it
module _ (gain : GainValue) (grid : GridValue) (raws : List ℤ) (from to : ℕ) (h : from ≤ to) where
  stretch_more : history grid gain (take from raws) ++ history grid gain (take (to - from) (drop from raws)) ≡ history grid
      gain (take to raws)
  stretch_more =
      let n : from + (to - from) ≡ to = omega arith in
      sym (history-append grid gain (take from raws) (take (to - from) (drop from raws)))
      ∙ ap (history grid gain) (sym (take-add from (to - from) raws) ∙ ap (λ n. take n raws) n)

  pub stretch_levels : (used r : ℕ) (levels new : List ℕ) → used ≤ length levels → r ≤ length new →
      take used levels ≡ history grid gain (take from raws) →
      take r new ≡ history grid gain (take (to - from) (drop from raws)) →
      take (used + r) (put_mid used (length levels - used) levels new) ≡ history grid gain (take to raws)
  stretch_levels used r levels new inside few b m = put_behind used r levels new _ _ inside few b m ∙ stretch_more

  pub stretch_used : (used r : ℕ) → used ≡ length (history grid gain (take from raws)) →
      r ≡ length (history grid gain (take (to - from) (drop from raws))) →
      used + r ≡ length (history grid gain (take to raws))
  stretch_used used r b m =
      omega (
        arith,
        b,
        m,
        length-append (history grid gain (take from raws)) (history grid gain (take (to - from) (drop from raws))),
        ap length stretch_more,
      )

-- no more levels than values
pub few_levels : (gain : GainValue) (grid : GridValue) (raws : List ℤ) → length (history grid gain raws) ≤ length raws
few_levels gain grid raws = omega (arith, counts_add gain grid raws)
