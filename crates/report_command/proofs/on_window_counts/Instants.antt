-- Instants in order.
use Rattle.std.proofs.Common.{◌≡◌, ℕ, ◌*◌, ◌≤◌, true, false, ◌&&◌, arith}
use Rattle.std.specs.Prelude.{ℤ, pos, ◌+ℤ◌, ◌≤ℤ◌, ◌<ℤ◌, int_le}
use Rattle.std.proofs.lemmas.Int.{ints}
use Rattle.std.proofs.lemmas.Nat.{mul-le}
use Rattle.report_command.specs.windows.Window.{instant_of}

plus_le : (z : ℤ) (n m : ℕ) → n ≤ m → (z +ℤ pos n) ≤ℤ (z +ℤ pos m)
plus_le z n m h = omega (arith, ints)

pub instant_le : (start : ℤ) (period i j : ℕ) → i ≤ j → instant_of start period i ≤ℤ instant_of start period j
instant_le start period i j h =
    let one : i * period ≤ j * period = mul-le i period j period h (omega arith) in
    plus_le start (i * period * 1000) (j * period * 1000) (omega (arith, one))

pub inside_is : (from a b to : ℤ) → (int_le from a && int_le b to) ≡ true → (from ≤ℤ a) × (b ≤ℤ to)
inside_is from a b to e = grind (arith, ints)

pub past_end : (from a b to : ℤ) → (int_le from a && int_le b to) ≡ false → from ≤ℤ a → to <ℤ b
past_end from a b to e h = grind (arith, ints)

pub le_then : (a b c : ℤ) → a ≤ℤ b → b ≤ℤ c → a ≤ℤ c
le_then a b c h k = omega (arith, ints)

pub lt_not : (a b c : ℤ) → a <ℤ b → b ≤ℤ c → c ≤ℤ a → ⊥
lt_not a b c h k l = omega (arith, ints)
