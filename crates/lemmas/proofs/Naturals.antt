-- Quotients, products, sums of fractions, and pairs of numbers.
--   quotient_by                       a quotient by a multiplication (that there is one: `div-eq_of_lt-le` of std)
--   quotient_above                    a quotient counted down from another
--   wholes_fit, carry_fits, multiple_fits, sum_fits   numbers w * d + m with a part m / d, below `top` wholes
--   wholes_grow                       what a multiple of a part adds to the wholes
--   one_factor                        one number fits an equation with a power
--   first_bits                        the first bits of a number of 64 bits
--   few_cases                         none, one or more
--   same_or_not                       two pairs are the same or not
--   round_up                          the test whether something rounds up by one
use Rattle.std.proofs.Common.{◌≡◌, ◌≢◌, ℕ, ◌+◌, ◌-◌, ◌*◌, ◌/◌, ◌%◌, ◌^◌, ◌<◌, ◌≤◌, ◌⊎◌, inl, inr, ap, nat_lt, arith}
use Rattle.std.proofs.lemmas.Bool.{cases_eq}
use Rattle.std.proofs.lemmas.Bool.Decides.{nat_tests}
use Rattle.std.proofs.Math.Nat.{lt_of_mul-lt-mul_right, div-mul-le_self, lt-div-mul-add, mul-lt-mul_of_pos_right, eq_of_mul-eq-mul_right, one-le-pow, div-eq_of_lt-le}
use Rattle.std.proofs.lemmas.Nat.{mul-le, shr-shr}
use mir.Val.{bool_byte}

-- a multiplier that is off by a little gives the quotient of each x to which that little does not come to top
pub quotient_by : (x d top m e : ℕ) → 0 < d → m * d ≡ top + e → x * e < top → x * m / top ≡ x / d
quotient_by x d top m e z h small =
    let q : ℕ = x / d in
    let under : q * d ≤ x = div-mul-le_self x d in
    let over : x + 1 ≤ (q + 1) * d = omega (arith, lt-div-mul-add {a = x} {b = d} z) in
    let one : q * top ≤ q * (m * d) = mul-le q top q (m * d) (omega arith) (omega (arith, h)) in
    let two : (q * d) * m ≤ x * m = mul-le (q * d) m x m under (omega arith) in
    let low : q * top ≤ x * m = omega arith in
    let three : (x + 1) * top ≤ ((q + 1) * d) * top = mul-le (x + 1) top ((q + 1) * d) top over (omega arith) in
    let four : x * (m * d) ≡ x * (top + e) = ap (λ y. x * y) h in
    let all : (x * m) * d < ((q + 1) * top) * d = omega arith in
    div-eq_of_lt-le top low (lt_of_mul-lt-mul_right d all)

-- a quotient counted down from k
pub quotient_above : (n d k m : ℕ) → 0 < d → m + n + 1 ≡ k * d → m / d + n / d + 1 ≡ k
quotient_above n d k m z e =
    let low : n / d * d ≤ n = div-mul-le_self n d in
    let high : n < n / d * d + d = lt-div-mul-add z in
    let less : n / d * d < k * d = omega arith in
    let more : n / d < k = lt_of_mul-lt-mul_right d less in
    let split : k ≡ (k - (n / d + 1)) + (n / d + 1) = omega arith in
    let part : k * d ≡ (k - (n / d + 1)) * d + (n / d + 1) * d = omega (arith, ap (λ j. j * d) split) in
    let q : m / d ≡ k - (n / d + 1) = div-eq_of_lt-le d (omega arith) (omega arith) in omega arith

-- the wholes of two numbers whose sum is below `top` fit below `top`
pub wholes_fit : (w v m n d top : ℕ) → w * d + m + (v * d + n) < top * d → w + v < top
wholes_fit w v m n d top h =
    let less : (w + v) * d < top * d = omega arith in lt_of_mul-lt-mul_right d less

-- so they do with a carry
pub carry_fits : (w v m n d top : ℕ) → w * d + m + (v * d + n) < top * d → d ≤ m + n → w + v + 1 < top
carry_fits w v m n d top h c =
    let less : (w + v + 1) * d < top * d = omega arith in lt_of_mul-lt-mul_right d less

-- m times a part x / d fits below m wholes
pub multiple_fits : (q m x d top : ℕ) → q ≡ m * x → x < d → m < top → q < top * d
multiple_fits q m x d top e h f =
    let most : m * x ≤ m * d = mul-le m x m d (omega arith) (omega arith) in
    let less : m * d < top * d = mul-lt-mul_of_pos_right f (omega arith) in omega arith

-- a number and n times a part x / d fit where its wholes and n do
pub sum_fits : (w r n x d top : ℕ) → r < d → x < d → w + n < top → w * d + r + n * x < top * d
sum_fits w r n x d top g h f =
    let most : n * x ≤ n * d = mul-le n x n d (omega arith) (omega arith) in
    let all : (w + n + 1) * d ≤ top * d = mul-le (w + n + 1) d top d (omega arith) (omega arith) in omega arith

-- a sum's wholes grow by at most the count
pub wholes_grow : (w m v r c n d : ℕ) → v * d + r ≡ w * d + m + c * n → m < d → n < d → v ≤ w + c
wholes_grow w m v r c n d e g h =
    let most : c * n ≤ c * d = mul-le c n c d (omega arith) (omega arith) in
    let less : v * d < (w + c + 1) * d = omega arith in
    let below : v < w + c + 1 = lt_of_mul-lt-mul_right d less in omega arith

-- an equation with a power has one solution
pub one_factor : (n m q c k r : ℕ) → 0 < c → 0 < q → n * q * c ^ k ≡ r → m * q * c ^ k ≡ r → n ≡ m
one_factor n m q c k r z y e f =
    let some : 1 ≤ c ^ k = one-le-pow k c z in
    let once : n * c ^ k ≡ m * c ^ k = eq_of_mul-eq-mul_right q y (n * c ^ k) (m * c ^ k) (omega arith) in
    eq_of_mul-eq-mul_right (c ^ k) some n m once

-- the first bits of n are twice the bits before the last one, and the last one
pub first_bits : (n bit : ℕ) → bit < 64 → n / 2 ^ (63 - bit) ≡ 2 * (n / 2 ^ (64 - bit)) + n / 2 ^ (63 - bit) % 2
first_bits n bit h =
    let e : 64 - bit ≡ 63 - bit + 1 = omega arith in
    let shifted : n / 2 ^ (63 - bit) / 2 ^ 1 ≡ n / 2 ^ (63 - bit + 1) = shr-shr n (63 - bit) 1 in
    rw e (omega arith)

same_by : {a b c d : ℕ} → ((a ≡ c) ⊎ (a ≢ c)) → ((b ≡ d) ⊎ (b ≢ d)) → ((a ≡ c) × (b ≡ d)) ⊎ ((a ≡ c) × (b ≡ d) → ⊥)
same_by (inl e) (inl f) = inl (e, f)
same_by (inl e) (inr n) = inr (λ p. n p.1)
same_by (inr n) f = inr (λ p. n p.0)

pub same_or_not : (a b c d : ℕ) → ((a ≡ c) × (b ≡ d)) ⊎ ((a ≡ c) × (b ≡ d) → ⊥)
same_or_not a b c d = same_by (cases_eq a c) (cases_eq b d)

-- a rest rounds up by one, and no rest by none
pub round_up : (rest : ℕ) → ((rest ≡ 0) × (bool_byte (nat_lt 0 rest) ≡ 0)) ⊎ ((0 < rest) × (bool_byte (nat_lt 0 rest) ≡ 1))
round_up rest = grind (arith, nat_tests)

-- none, one or more
pub few_cases : (n : ℕ) → (n ≡ 0) ⊎ ((n ≡ 1) ⊎ (2 ≤ n))
few_cases n = grind arith
