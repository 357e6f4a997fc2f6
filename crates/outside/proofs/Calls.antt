-- The number of the last call.
use Rattle.std.proofs.Common.{◌≡◌, ◌<◌, ◌≤◌, ◌⊎◌, inl, inr, ℕ, ◌+◌, ◌-◌, ◌^◌, min, List, Contains, subst, arith}
use Rattle.std.proofs.lemmas.Bool.{cases_lt}

-- a call that stands among the numbers, as the one before the next
pub last_of_calls : (failing : List ℕ) (call next : ℕ) → next ≡ min (call + 1) (2 ^ 64 - 1) → Contains failing call →
    Contains failing (next - 1) ⊎ (next ≡ 2 ^ 64 - 1)
last_of_calls failing call next is there = by_size (cases_lt (call + 1) (2 ^ 64 - 1))
  where
    by_size : (call + 1 < 2 ^ 64 - 1) ⊎ (2 ^ 64 - 1 ≤ call + 1) → Contains failing (next - 1) ⊎ (next ≡ 2 ^ 64 - 1)
    by_size (inl below) = let same : call ≡ next - 1 = omega (arith, is, below) in inl (subst (λ n. Contains failing n) same there)
    by_size (inr above) = inr (omega (arith, is, above))
