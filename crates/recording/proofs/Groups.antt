-- Bytes read four by four: the first four are a sample, and what was written of a sample reads as it.
use Rattle.std.proofs.Common.{◌≡◌, ◌<◌, ℕ, ◌^◌, ℤ, pos, negsuc, List, [], ◌∷◌, ◌++◌, length, refl, ap, ◌∙◌, arith}
use Rattle.std.specs.Prelude.{FitsSigned}
use Rattle.std.specs.Int.{w32, to_le_bytes, cast_signed, cast_unsigned}
use Rattle.std.proofs.lemmas.Int.{to_z-of_z}
use Rattle.std.proofs.lemmas.Nat.{from_le_bytes-to_le_bytes_4}
use Rattle.recording.specs.Samples.{sample, samples, torn_bytes}

-- a group of four bytes in front
pub samples-group : (bs rest : List ℕ) → length bs ≡ 4 → samples (bs ++ rest) ≡ sample bs ∷ samples rest
samples-group [] rest four = absurd (omega (arith, four))
samples-group (a ∷ []) rest four = absurd (omega (arith, four))
samples-group (a ∷ b ∷ []) rest four = absurd (omega (arith, four))
samples-group (a ∷ b ∷ c ∷ []) rest four = absurd (omega (arith, four))
samples-group (a ∷ b ∷ c ∷ d ∷ []) rest four = refl
samples-group (a ∷ b ∷ c ∷ d ∷ e ∷ l) rest four = absurd (omega (arith, four))

pub torn_bytes-group : (bs rest : List ℕ) → length bs ≡ 4 → torn_bytes (bs ++ rest) ≡ torn_bytes rest
torn_bytes-group [] rest four = absurd (omega (arith, four))
torn_bytes-group (a ∷ []) rest four = absurd (omega (arith, four))
torn_bytes-group (a ∷ b ∷ []) rest four = absurd (omega (arith, four))
torn_bytes-group (a ∷ b ∷ c ∷ []) rest four = absurd (omega (arith, four))
torn_bytes-group (a ∷ b ∷ c ∷ d ∷ []) rest four = refl
torn_bytes-group (a ∷ b ∷ c ∷ d ∷ e ∷ l) rest four = absurd (omega (arith, four))

abbrev pub bytes_of : ℤ → List ℕ
bytes_of v = to_le_bytes w32 (cast_unsigned w32 v)

pub length-bytes_of : (v : ℤ) → length (bytes_of v) ≡ 4
length-bytes_of v = refl

bits_few : (v : ℤ) → FitsSigned w32 v → cast_unsigned w32 v < 2 ^ 32
bits_few (pos n) f = let small : n < 2147483648 = f.sfits in omega (arith, small)
bits_few (negsuc n) f = let small : n < 2147483648 = f.sfits in omega (arith, small)

pub sample-bytes_of : (v : ℤ) → FitsSigned w32 v → sample (bytes_of v) ≡ v
sample-bytes_of v f = ap (cast_signed w32) (from_le_bytes-to_le_bytes_4 (cast_unsigned w32 v) (bits_few v f)) ∙ to_z-of_z w32 v f
