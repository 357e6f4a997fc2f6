-- Neighbours in a residue, one after another.
--   range_step, above_step  what one more pair of neighbours adds
--   ranges_end, pairs_end   none is left
--   neighbours_within       they are ranges between levels below a bound
--   no_range_of_none        neighbours differ, so no range is 0
use Rattle.std.proofs.Common.{◌≡◌, ◌≢◌, ℕ, zero, suc, ◌+◌, ◌-◌, ◌*◌, ◌<◌, ◌≤◌, ◌&&◌, ◌==◌, if◌then◌else◌, Bool, true, false, min, max, List, [], ◌∷◌, length, drop, get_or, refl, sym, ap, ◌∙◌, arith}
use Rattle.std.specs.Prelude.{All}
use Rattle.std.proofs.lemmas.Bool.Decides.{nat_tests}
use Rattle.std.proofs.lemmas.List.{drop_more}
use Rattle.std.proofs.lemmas.List.Elements.{All-cons, All-nil, All-head, All-tail}
use Rattle.turning_points.specs.Pairs.{range}
use Rattle.turning_points.proofs.Zigzag.{IsZigzag, zig_tail, ends_differ}
use Rattle.turning_points.specs.three_point.Bounds.{IsWithin}
use Rattle.turning_points.specs.three_point.Run.{counted_range, half_units_at_range, half_units_of_pair}
use Rattle.four_point.specs.residue_join.HalfUnits.{neighbours}
use Rattle.tally.specs.tables.Tables.{is_at, raise}
use Rattle.tally.proofs.on_tables.Counting.{raise_at}
use Rattle.simple_counts.proofs.on_level_crossing.Steps.{at_few}

neighbours_more : (l : List ℕ) (j : ℕ) → j + 1 < length l →
    neighbours (drop j l) ≡ counted_range (get_or l j 0) (get_or l (j + 1) 0) 1 ∷ neighbours (drop (j + 1) l)
neighbours_more l j h =
    let a = drop_more l j 0 (omega arith) in
    let b = drop_more l (j + 1) 0 h in
    ap neighbours a ∙ ap (λ k. neighbours (get_or l j 0 ∷ k)) b ∙ ap (λ k. counted_range (get_or l j 0) (get_or l (j + 1) 0) 1 ∷
    neighbours k) (sym b)

at_range : (x y k : ℕ) → (if k == max x y - min x y then 1 else 0) ≡ is_at k (range x y)
at_range x y k = grind (arith, nat_tests)

-- one more at the place of the range
pub range_step : (out l : List ℕ) (i r k : ℕ) → 1 ≤ i → i < length l → r ≡ range (get_or l (i - 1) 0) (get_or l i 0) → r < length out →
    get_or (raise out r) k 0 + half_units_at_range k (neighbours (drop i l)) ≡ get_or out k 0 + half_units_at_range k
    (neighbours (drop (i - 1) l))
range_step out l i r k one h e w =
    let n : i - 1 + 1 ≡ i = omega arith in
    let m : i - 1 + 1 < length l = omega arith in
    omega (
      arith,
      raise_at out r k w,
      ap (half_units_at_range k) (neighbours_more l (i - 1) m),
      ap (λ j. half_units_at_range k (neighbours (drop j l))) n,
      at_range (get_or l (i - 1) 0) (get_or l (i - 1 + 1) 0) k,
      ap (λ j. is_at k (range (get_or l (i - 1) 0) (get_or l j 0))) n,
      ap (is_at k) e,
    )

-- one more at the higher level, where the lower one is lo
above_by : (lo hi a b : ℕ) (met : Bool) → (a == lo) ≡ met → (if met then is_at hi b else 0) ≡ 1 * (if lo == a && hi == b then 1 else 0)
above_by lo hi a b true e = grind (arith, nat_tests)
above_by lo hi a b false e = grind (arith, nat_tests)

raised : (out : List ℕ) (place hi : ℕ) (met : Bool) → place < length out →
    get_or (if met then raise out place else out) hi 0 ≡ get_or out hi 0 + (if met then is_at hi place else 0)
raised out place hi true w = raise_at out place hi w
raised out place hi false w = omega arith

pub above_step : (out l : List ℕ) (i lo hi : ℕ) → 1 ≤ i → i < length l → max (get_or l (i - 1) 0) (get_or l i 0) < length out →
    get_or (if min (get_or l (i - 1) 0) (get_or l i 0) == lo then raise out (max (get_or l (i - 1) 0) (get_or l i 0)) else out) hi 0 +
    half_units_of_pair lo hi (neighbours (drop i l))
    ≡ get_or out hi 0 + half_units_of_pair lo hi (neighbours (drop (i - 1) l))
above_step out l i lo hi one h w =
    let x = get_or l (i - 1) 0 in
    let y = get_or l i 0 in
    let n : i - 1 + 1 ≡ i = omega arith in
    let m : i - 1 + 1 < length l = omega arith in
    let more : half_units_of_pair lo hi (neighbours (drop (i - 1) l)) ≡ (if lo == min x y && hi == max x y then 1 else 0) +
    half_units_of_pair lo hi (neighbours (drop i l)) =
    ap (half_units_of_pair lo hi) (neighbours_more l (i - 1) m) ∙ ap (λ j. half_units_of_pair lo hi
    (counted_range x (get_or l j 0) 1 ∷ neighbours (drop j l))) n in
    omega (arith, raised out (max x y) hi (min x y == lo) w, above_by lo hi (min x y) (max x y) (min x y == lo) refl, more)

-- a place has one more at most
pub raised_few : (out : List ℕ) (place k : ℕ) (met : Bool) → place < length out →
    get_or (if met then raise out place else out) k 0 ≤ get_or out k 0 + 1
raised_few out place k met w = omega (arith, raised out place k met w, at_most met (is_at k place) (at_few k place))
  where
    at_most : (b : Bool) (n : ℕ) → n ≤ 1 → (if b then n else 0) ≤ 1
    at_most true n h = h
    at_most false n h = omega arith

-- none is left
pub ranges_end : (l : List ℕ) (j k : ℕ) → length l ≤ j + 1 → half_units_at_range k (neighbours (drop j l)) ≡ 0
ranges_end [] zero k h = refl
ranges_end [] (suc j) k h = refl
ranges_end (x ∷ []) zero k h = refl
ranges_end (x ∷ y ∷ l) zero k h = absurd (omega arith)
ranges_end (x ∷ l) (suc j) k h = ranges_end l j k (omega arith)

pub pairs_end : (l : List ℕ) (j : ℕ) → length l ≤ j + 1 → (lo hi : ℕ) → half_units_of_pair lo hi (neighbours (drop j l)) ≡ 0
pairs_end [] zero h lo hi = refl
pairs_end [] (suc j) h lo hi = refl
pairs_end (x ∷ []) zero h lo hi = refl
pairs_end (x ∷ y ∷ l) zero h lo hi = absurd (omega arith)
pairs_end (x ∷ l) (suc j) h lo hi = pairs_end l j (omega arith) lo hi

within : (n x y : ℕ) → x < n → y < n → IsWithin n (counted_range x y 1)
within n x y p q = record { ordered = grind arith; below = grind arith; some = omega arith; few = omega arith }

pub neighbours_within : (n : ℕ) (l : List ℕ) → All (λ level. level < n) l → All (IsWithin n) (neighbours l)
neighbours_within n [] a = All-nil (IsWithin n)
neighbours_within n (x ∷ []) a = All-nil (IsWithin n)
neighbours_within n (x ∷ y ∷ l) a =
    let rest = All-tail (λ level. level < n) x (y ∷ l) a in
    All-cons (IsWithin n) (counted_range x y 1) (neighbours (y ∷ l)) (within n x y (All-head (λ level. level < n) x (y ∷ l) a)
    (All-head (λ level. level < n) y l rest)) (neighbours_within n (y ∷ l) rest)

apart : (x y n : ℕ) → x ≢ y → n ≡ 0 → (if 0 == max x y - min x y then 1 else 0) + n ≡ 0
apart x y n d e = grind (arith, nat_tests)

pub no_range_of_none : (l : List ℕ) → IsZigzag l → half_units_at_range 0 (neighbours l) ≡ 0
no_range_of_none [] z = refl
no_range_of_none (x ∷ []) z = refl
no_range_of_none (x ∷ y ∷ l) z =
    apart x y (half_units_at_range 0 (neighbours (y ∷ l))) (ends_differ z) (no_range_of_none (y ∷ l) (zig_tail z))
