-- Sizes of integers, and integers of 32 bits.
use Rattle.std.proofs.Common.{ℕ, ◌+◌, ◌<◌, ◌≤◌, arith}
use Rattle.std.specs.Prelude.{ℤ, pos, negsuc, ◌+ℤ◌, unsigned_abs, FitsSigned}
use Rattle.std.specs.Int.{w32, w64}
use Rattle.std.proofs.Math.IntN.{◌-ℤ◌}
use Rattle.std.proofs.lemmas.Int.{ints, fits_signed_from_abs}

pub abs-add : (a b : ℤ) (m n : ℕ) → unsigned_abs a ≤ m → unsigned_abs b ≤ n → unsigned_abs (a +ℤ b) ≤ m + n
abs-add (pos a) (pos b) m n g h = omega (arith, ints)
abs-add (pos a) (negsuc b) m n g h = omega (arith, ints)
abs-add (negsuc a) (pos b) m n g h = omega (arith, ints)
abs-add (negsuc a) (negsuc b) m n g h = omega (arith, ints)

pub abs-sub : (a b : ℤ) (m n : ℕ) → unsigned_abs a ≤ m → unsigned_abs b ≤ n → unsigned_abs (a -ℤ b) ≤ m + n
abs-sub (pos a) (pos b) m n g h = omega (arith, ints)
abs-sub (pos a) (negsuc b) m n g h = omega (arith, ints)
abs-sub (negsuc a) (pos b) m n g h = omega (arith, ints)
abs-sub (negsuc a) (negsuc b) m n g h = omega (arith, ints)

pub abs-of_32_bits : (raw : ℤ) → FitsSigned w32 raw → unsigned_abs raw ≤ 2147483648
abs-of_32_bits (pos n) f = let small : n < 2147483648 = f.sfits in omega arith
abs-of_32_bits (negsuc n) f = let small : n < 2147483648 = f.sfits in omega arith

-- an integer of 32 bits is one of 64
pub wider_fits : (raw : ℤ) → FitsSigned w32 raw → FitsSigned w64 raw
wider_fits raw f = fits_signed_from_abs w64 raw (omega (arith, abs-of_32_bits raw f))
