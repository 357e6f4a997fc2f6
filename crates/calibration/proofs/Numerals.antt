-- What a reading is, in numbers.
--   level_by_stress    a level is the class in which the stress lies
--   missing_by_value   one raw value says that there is no reading
use Rattle.std.proofs.Common.{◌≡◌, ◌≢◌, ◌<◌, ◌≤◌, ◌+◌, ◌*◌, ◌/◌, ◌^◌, ℕ, Bool, true, false, refl, sym, ◌∙◌, ap, subst, arith}
use Rattle.std.specs.Prelude.{◌↔◌, ◌+ℤ◌, ◌≤ℤ◌, ◌<ℤ◌, ℤ, pos, negsuc, neg_ℤ, nat_lt, if◌then◌else◌}
use Rattle.std.proofs.Math.IntN.{◌-ℤ◌}
use Rattle.std.proofs.Math.Nat.{div-mul-le_self, lt-div-mul-add}
use Rattle.std.proofs.lemmas.Int.{ints}
use Rattle.std.proofs.lemmas.Nat.{le-div, div_below}
use Rattle.std.proofs.lemmas.Bool.{ltb-true, lt-ltb, false≢true}
use Rattle.std.proofs.lemmas.Bool.Decides.{Decides-int_eq}
use Rattle.calibration.specs.Gain.{GainValue}
use Rattle.calibration.specs.Grid.{GridValue}
use Rattle.calibration.specs.Level.{LiesInClass, floor_div, stress_of, class_of, in_grid, is_missing, reading_of}
use Rattle.calibration.specs.declared.reading.Reading.TheVariants.{Missing, Refused, Level}

-- the floor of a quotient
floor_bounds : (z : ℤ) (d q : ℕ) → 1 ≤ d → floor_div z d ≡ pos q → (pos (q * d) ≤ℤ z) × (z <ℤ pos ((q + 1) * d))
floor_bounds (pos n) d q some is =
    let same : n / d ≡ q = cc in
    let low : n / d * d ≤ n = div-mul-le_self n d in
    let high : n < n / d * d + d = lt-div-mul-add {a = n} {b = d} some in
    let product : n / d * d ≡ q * d = ap (λ k. k * d) same in
    (omega (arith, ints), omega (arith, ints))
floor_bounds (negsuc n) d q some is = absurd (cc)

floor_within : (z : ℤ) (d q : ℕ) → 1 ≤ d → pos (q * d) ≤ℤ z → z <ℤ pos ((q + 1) * d) → floor_div z d ≡ pos q
floor_within (pos n) d q some low high =
    let least : q ≤ n / d = le-div q n d some (omega (arith, ints)) in
    let most : n / d < q + 1 = div_below n d (q + 1) some (omega (arith, ints)) in
    let same : n / d ≡ q = omega arith in ap pos same
floor_within (negsuc n) d q some low high = absurd (omega (arith, ints))

-- a reading, by whether it is missing and by the class
is_among : (b : Bool) (n l classes : ℕ) → nat_lt n classes ≡ b → (if b then Level n else Refused) ≡ Level l → (n ≡ l) × (n < classes)
is_among true n l classes is e = (cc, ltb-true n classes is)
is_among false n l classes is e = absurd (cc)

is_level : (missing : Bool) (grid : GridValue) (z : ℤ) (l : ℕ) → (if missing then Missing else in_grid grid z) ≡ Level l
    → (missing ≡ false) × (z ≡ pos l) × (l < grid.classes)
is_level true grid z l e = absurd (cc)
is_level false grid (pos n) l e =
    let among = is_among (nat_lt n grid.classes) n l grid.classes refl e in
    (refl, ap pos among.0, subst (λ (k : ℕ). k < grid.classes) among.0 among.1)
is_level false grid (negsuc n) l e = absurd (cc)

has_level : (missing : Bool) (grid : GridValue) (z : ℤ) (l : ℕ) → missing ≡ false → z ≡ pos l → l < grid.classes
    → (if missing then Missing else in_grid grid z) ≡ Level l
has_level missing grid z l there is lt = ap (λ (b : Bool). if b then Missing else in_grid grid z) there ∙ ap (in_grid grid) is
    ∙ ap (λ (b : Bool). if b then Level l else Refused) (lt-ltb l grid.classes lt)

not_missing_there : (b : Bool) (n : ℕ) → (if b then Level n else Refused) ≢ Missing
not_missing_there true n e = cc
not_missing_there false n e = cc

not_missing_in : (grid : GridValue) (z : ℤ) → in_grid grid z ≢ Missing
not_missing_in grid (pos n) e = not_missing_there (nat_lt n grid.classes) n e
not_missing_in grid (negsuc n) e = cc

is_missing_by : (missing : Bool) (grid : GridValue) (z : ℤ) → (if missing then Missing else in_grid grid z) ≡ Missing → missing ≡ true
is_missing_by true grid z e = refl
is_missing_by false grid z e = absurd (not_missing_in grid z e)

is_false : (b : Bool) → b ≢ true → b ≡ false
is_false true other = absurd (other refl)
is_false false other = refl

-- the stress itself in place of what lies above the lower end
above_low : (s low : ℤ) (w l : ℕ) → pos (l * (w * 500)) ≤ℤ (s -ℤ low) → (s -ℤ low) <ℤ pos ((l + 1) * (w * 500))
    → ((low +ℤ pos (500 * w * l)) ≤ℤ s) × (s <ℤ (low +ℤ pos (500 * w * (l + 1))))
above_low s low w l from to = (omega (arith, ints), omega (arith, ints))

from_low : (s low : ℤ) (w l : ℕ) → (low +ℤ pos (500 * w * l)) ≤ℤ s → s <ℤ (low +ℤ pos (500 * w * (l + 1)))
    → (pos (l * (w * 500)) ≤ℤ (s -ℤ low)) × ((s -ℤ low) <ℤ pos ((l + 1) * (w * 500)))
from_low s low w l from to = (omega (arith, ints), omega (arith, ints))

pub level_lies : (gain : GainValue) (grid : GridValue) (raw : ℤ) (l : ℕ) → 1 ≤ grid.w2 → reading_of gain grid raw ≡ Level l
    → (raw ≢ neg_ℤ (pos (2 ^ 31))) × (l < grid.classes) × LiesInClass gain grid raw l
level_lies gain grid raw l wide e =
    let is = is_level (is_missing raw) grid (class_of grid (stress_of gain raw)) l e in
    let bounds = floor_bounds (stress_of gain raw -ℤ grid.low_kpa) (grid.w2 * 500) l (omega (arith, wide)) is.1 in (
      λ none. false≢true (sym is.0 ∙ (Decides-int_eq raw (neg_ℤ (pos (2 ^ 31)))).1 none),
      is.2,
      above_low (stress_of gain raw) grid.low_kpa grid.w2 l bounds.0 bounds.1,
    )

pub lies_level : (gain : GainValue) (grid : GridValue) (raw : ℤ) (l : ℕ) → 1 ≤ grid.w2 → raw ≢ neg_ℤ (pos (2 ^ 31)) → l < grid.classes
    → LiesInClass gain grid raw l → reading_of gain grid raw ≡ Level l
lies_level gain grid raw l wide some lt lies =
    let bounds = from_low (stress_of gain raw) grid.low_kpa grid.w2 l lies.0 lies.1 in
    has_level (is_missing raw) grid (class_of grid (stress_of gain raw)) l
    (is_false (is_missing raw) (λ none. some ((Decides-int_eq raw (neg_ℤ (pos (2 ^ 31)))).0 none)))
    (floor_within (stress_of gain raw -ℤ grid.low_kpa) (grid.w2 * 500) l (omega (arith, wide)) bounds.0 bounds.1) lt

pub level_by_stress : (gain : GainValue) (grid : GridValue) (raw : ℤ) (l : ℕ) → 1 ≤ grid.w2 → (reading_of gain grid raw ≡ Level l)
    ↔ ((raw ≢ neg_ℤ (pos (2 ^ 31))) × (l < grid.classes) × LiesInClass gain grid raw l)
level_by_stress gain grid raw l wide = (level_lies gain grid raw l wide, λ is. lies_level gain grid raw l wide is.0 is.1 is.2)

pub missing_by_value : (gain : GainValue) (grid : GridValue) (raw : ℤ) → (reading_of gain grid raw ≡ Missing)
    ↔ (raw ≡ neg_ℤ (pos (2 ^ 31)))
missing_by_value gain grid raw = (
  λ e. (Decides-int_eq raw (neg_ℤ (pos (2 ^ 31)))).0 (is_missing_by (is_missing raw) grid (class_of grid (stress_of gain raw)) e),
  λ is. ap (λ (b : Bool). if b then Missing else in_grid grid (class_of grid (stress_of gain raw)))
      ((Decides-int_eq raw (neg_ℤ (pos (2 ^ 31)))).1 is),
)
