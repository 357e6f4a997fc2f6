-- Powers of ranges and categories: their bounds, and the equations of the curves.
use Rattle.std.proofs.Common.{◌≡◌, ℕ, ◌*◌, ◌^◌, ◌<◌, ◌≤◌, ◌∙◌, ap, arith}
use Rattle.std.proofs.Math.Nat.{pow-le-pow_left, one-le-pow, mul-lt-mul_of_pos_right}
use Rattle.std.proofs.lemmas.Nat.{mul-pow, pow-add, mul-le}
use Rattle.damage.specs.sn_curve.Curve.{IsNormalShare}

pub cube_bound : (r : ℕ) → r ≤ 54000 → r ^ 3 ≤ 157464000000000
cube_bound r h = pow-le-pow_left h 3

pub fifth_bound : (r : ℕ) → r ≤ 54000 → r ^ 5 ≤ 459165024000000000000000
fifth_bound r h = pow-le-pow_left h 5

pub square_bound : (c : ℕ) → c ≤ 160 → c ^ 2 ≤ 25600
square_bound c h = pow-le-pow_left h 2

pub normal_bound : (c : ℕ) → c ≤ 160 → (737 * (40 * c)) ^ 5 ≤ 4716800 ^ 5
normal_bound c h = let all : 737 * (40 * c) ≤ 4716800 = omega arith in pow-le-pow_left all 5

pub shear_bound : (c : ℕ) → c ≤ 160 → (40 * c) ^ 5 ≤ 6400 ^ 5
shear_bound c h = let all : 40 * c ≤ 6400 = omega arith in pow-le-pow_left all 5

-- slope 3: the numerator fits, is below the denominator, and meets the curve's equation
pub slope_three_fits : (r c : ℕ) → r ≤ 54000 → c ≤ 160 → r ^ 3 * 217438998607457 * c ^ 2 ≤ 157464000000000 * 217438998607457 * 25600
slope_three_fits r c h g =
    mul-le (r ^ 3 * 217438998607457) (c ^ 2) (157464000000000 * 217438998607457) 25600 (omega (arith, cube_bound r h)) (square_bound c g)

-- the denominator in powers of the category
normal_parts : (c : ℕ) → (737 * (40 * c)) ^ 5 ≡ 217438998607457 * (102400000 * (c ^ 3 * c ^ 2))
normal_parts c =
    mul-pow 737 (40 * c) 5 ∙ ap (λ y. 217438998607457 * y) (mul-pow 40 c 5 ∙ ap (λ y. 102400000 * y) (pow-add c 3 2))

normal_parts_three : (c : ℕ) → (737 * (40 * c)) ^ 5 ≡ 217438998607457 * ((40 * c) ^ 3 * (1600 * c ^ 2))
normal_parts_three c =
    mul-pow 737 (40 * c) 5 ∙ ap (λ y. 217438998607457 * y) (pow-add (40 * c) 3 2 ∙ ap (λ y. (40 * c) ^ 3 * y) (mul-pow 40 c 2))

pub slope_three_below : (r c : ℕ) → r ≤ 54000 → 36 ≤ c → r ^ 3 * 217438998607457 * c ^ 2 < 2500 * (737 * (40 * c)) ^ 5
slope_three_below r c h g =
    let cube : 46656 ≤ c ^ 3 = pow-le-pow_left g 3 in
    let some : 0 < 217438998607457 * c ^ 2 = omega (arith, one-le-pow 2 c (omega arith)) in
    let less : r ^ 3 < 256000000000 * c ^ 3 = omega (arith, cube_bound r h) in
    let all : r ^ 3 * (217438998607457 * c ^ 2) < (256000000000 * c ^ 3) * (217438998607457 * c ^ 2) = mul-lt-mul_of_pos_right less some in
    omega (arith, normal_parts c)

pub slope_three_meets : (r c : ℕ) → r ^ 3 * 217438998607457 * c ^ 2 * 4000000 * (40 * c) ^ 3 ≡ 2500 * (737 * (40 * c)) ^ 5 * r ^ 3
slope_three_meets r c = omega (arith, ap (λ y. 2500 * y * r ^ 3) (normal_parts_three c))

-- slope 5
pub slope_five_below : (r c : ℕ) → 36 ≤ c → 1000 * r < 737 * (40 * c) → r ^ 5 * 250000000000 < 2500 * (737 * (40 * c)) ^ 5
slope_five_below r c g h =
    let fifth : (1000 * r) ^ 5 ≤ (737 * (40 * c)) ^ 5 = pow-le-pow_left (omega arith) 5 in
    omega (arith, mul-pow 1000 r 5, one-le-pow 5 (737 * (40 * c)) (omega arith))

pub slope_five_meets : (r c : ℕ) → r ^ 5 * 250000000000 * (2 * (5 * 10 ^ 6)) * (737 * (40 * c)) ^ 5 ≡ 2500 * (737 * (40 * c)) ^ 5
    * (1000 * r) ^ 5
slope_five_meets r c = omega (arith, ap (λ y. 2500 * (737 * (40 * c)) ^ 5 * y) (mul-pow 1000 r 5))

-- shear
pub shear_below : (r c : ℕ) → r ≤ 54000 → 80 ≤ c → r ^ 5 < 4000000 * (40 * c) ^ 5
shear_below r c h g =
    let more : 3200 ≤ 40 * c = omega arith in
    let fifth : 3200 ^ 5 ≤ (40 * c) ^ 5 = pow-le-pow_left more 5 in
    omega (arith, fifth_bound r h)

-- the numerators as the code makes them, by the results of its powers
pub product_is : (p q r c : ℕ) → p ≡ r ^ 3 → q ≡ c ^ 2 → p * 217438998607457 * q ≡ r ^ 3 * 217438998607457 * c ^ 2
product_is p q r c e f = ap (λ y. y * 217438998607457 * q) e ∙ ap (λ y. r ^ 3 * 217438998607457 * y) f

pub is_slope_three : (r c : ℕ) → 737 * (40 * c) ≤ 1000 * r →
    IsNormalShare r (40 * c) (r ^ 3 * 217438998607457 * c ^ 2) (2500 * (737 * (40 * c)) ^ 5)
is_slope_three r c h = record {
  from_knee = λ _. slope_three_meets r c;
  below_knee = λ g _. absurd (omega arith);
  below_cut_off = λ g. absurd (omega arith);
}

pub is_slope_five : (r c : ℕ) → 1000 * r < 737 * (40 * c) → 549 * 737 * (40 * c) ≤ 1000 * 1000 * r →
    IsNormalShare r (40 * c) (r ^ 5 * 250000000000) (2500 * (737 * (40 * c)) ^ 5)
is_slope_five r c h g = record {
  from_knee = λ f. absurd (omega arith);
  below_knee = λ _ _. slope_five_meets r c;
  below_cut_off = λ f. absurd (omega arith);
}
