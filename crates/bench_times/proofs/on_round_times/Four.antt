-- A fact of each of four items.
use Rattle.std.proofs.Common.{◌<◌, ℕ, zero, suc, [], ◌∷◌, get_or, arith}

pub each_four : {A : Type 0} → (P : ℕ → A → Type 0) (a b c e : A) → P 0 a → P 1 b → P 2 c → P 3 e → (g : ℕ) (d : A) → g < 4
    → P g (get_or (a ∷ b ∷ c ∷ e ∷ []) g d)
each_four P a b c e p q r s zero d h = p
each_four P a b c e p q r s (suc zero) d h = q
each_four P a b c e p q r s (suc (suc zero)) d h = r
each_four P a b c e p q r s (suc (suc (suc zero))) d h = s
each_four P a b c e p q r s (suc (suc (suc (suc g)))) d h = absurd (omega (arith, h))
