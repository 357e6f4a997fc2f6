-- Samples that are made from a number.
--   next_state      the state after one sample more
--   made_sample     the sample of a state
--   made_samples    so many samples from a seed
--   state_after     the state after so many samples
use Rattle.std.specs.Prelude.{ℕ, zero, suc, ◌+◌, ◌*◌, ◌/◌, ◌%◌, ◌^◌, ℤ, pos, ◌-ℤ◌, List, [], ◌∷◌}

abbrev pub next_state : ℕ → ℕ
next_state x = (x * 6364136223846793005 + 1442695040888963407) % 2 ^ 64

-- its top seven bits as a number, minus 64
abbrev pub made_sample : ℕ → ℤ
made_sample x = pos (x / 2 ^ 57) -ℤ pos 64

abbrev pub made_samples : ℕ → ℕ → List ℤ
made_samples zero x = []
made_samples (suc n) x = made_sample (next_state x) ∷ made_samples n (next_state x)

abbrev pub state_after : ℕ → ℕ → ℕ
state_after zero x = x
state_after (suc n) x = state_after n (next_state x)
