-- The billionths of a fraction are the wholes of a thousand million times its part, and one more where a rest is left.
use Rattle.std.proofs.Common.{◌≡◌, ℕ, ◌+◌, ◌*◌, ◌<◌, ◌≤◌, ◌⊎◌, inl, inr, sym, ap, subst, arith}
use Rattle.std.proofs.Math.Nat.{lt_of_mul-lt-mul_right, le_of_mul-le-mul_right}
use Rattle.std.specs.Prelude.{nat_lt}
use Rattle.damage.specs.declared.exact_frac.frac.Frac.{Frac}
use Rattle.damage.specs.exact_frac.Frac.{IsCeilingInBillionths}
use Rattle.damage.specs.declared.exact_frac.frac.TheConstants.{BILLION}
use Rattle.lemmas.proofs.Naturals.{round_up}
use mir.Val.{bool_byte}

-- b is the billionths of the part: with no rest the number is exactly so many
no_rest : (f : Frac) (b : ℕ) → 0 < f.den → b * f.den ≡ BILLION * f.num →
    IsCeilingInBillionths f (f.whole * BILLION + b)
no_rest f b g e = record {
  covers = omega arith;
  least = λ p h.
      let whole : (f.whole * BILLION + b) * f.den ≤ p * f.den = omega arith in le_of_mul-le-mul_right whole g;
}

-- and with a rest it lies between so many and one more
some_rest : (f : Frac) (b rest : ℕ) → 0 < rest → rest < f.den → b * f.den + rest ≡ BILLION * f.num →
    IsCeilingInBillionths f (f.whole * BILLION + (b + 1))
some_rest f b rest s g e = record {
  covers = omega arith;
  least = λ p h.
      let below : (f.whole * BILLION + b) * f.den < p * f.den = omega arith in
      let less : f.whole * BILLION + b < p = lt_of_mul-lt-mul_right f.den below in omega arith;
}

ceiling : (f : Frac) (b rest up : ℕ) → rest < f.den → b * f.den + rest ≡ BILLION * f.num →
    ((rest ≡ 0) × (up ≡ 0)) ⊎ ((0 < rest) × (up ≡ 1)) →
    IsCeilingInBillionths f (f.whole * BILLION + (b + up))
ceiling f b rest up g e (inl (none, same)) =
    subst (λ q. IsCeilingInBillionths f (f.whole * BILLION + q)) (omega arith) (no_rest f b (omega arith) (omega arith))
ceiling f b rest up g e (inr (some, more)) =
    subst (λ u. IsCeilingInBillionths f (f.whole * BILLION + (b + u))) (sym more) (some_rest f b rest some g e)

pub is_ceiling : (f : Frac) (b rest d : ℕ) → rest < d → d ≡ f.den → b * d + rest ≡ BILLION * f.num →
    IsCeilingInBillionths f (f.whole * BILLION + (b + bool_byte (nat_lt 0 rest)))
is_ceiling f b rest d g s e =
    ceiling f b rest (bool_byte (nat_lt 0 rest)) (omega arith) (omega (arith, ap (λ y. b * y) s)) (round_up rest)
