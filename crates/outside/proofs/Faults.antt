-- A count of faults that rose, seen from before and from later.
use Rattle.std.specs.Prelude.{ℕ, ◌≤◌}
use Rattle.std.proofs.Common.{arith}
use Rattle.outside.specs.Fault.{CountRose}

pub rose_more : (a b c : ℕ) → CountRose a b → b ≤ c → CountRose a c
rose_more a b c rose le = omega (arith, rose, le)

pub rose_before : (a b c : ℕ) → a ≤ b → CountRose b c → CountRose a c
rose_before a b c le rose = omega (arith, le, rose)
