-- Numbers as wholes and a part of one: whole + num / den.
use Rattle.std.specs.Prelude.{ℕ, ◌+◌, ◌*◌, ◌≤◌}
use Rattle.damage.specs.declared.exact_frac.frac.Frac.{Frac}
use Rattle.damage.specs.declared.exact_frac.frac.TheConstants.{BILLION}

-- how many times 1 / den the number is
abbrev pub parts : Frac → ℕ
parts f = f.whole * f.den + f.num

-- q billionths are at least the number
abbrev pub CoversInBillionths : Frac → ℕ → Type 0
CoversInBillionths f q = parts f * BILLION ≤ q * f.den

-- q is the least number of billionths that is not below the number
pub record IsCeilingInBillionths (f : Frac) (q : ℕ) : Type 0 where
  pub covers : CoversInBillionths f q
  pub least : (p : ℕ) → CoversInBillionths f p → q ≤ p
