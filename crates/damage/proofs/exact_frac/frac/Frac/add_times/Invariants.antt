-- The multiple by the first bits of n has been formed.
use Rattle.std.proofs.Common.{◌≡◌, ◌-◌, ◌*◌, ◌/◌, ◌^◌}
use Rattle.damage.specs.exact_frac.Frac.{parts}
use Rattle.damage.proofs.exact_frac.frac.Frac.add_times.Given as goal

abbrev pub invariant-loop-bit : goal.invariant-loop-bit
invariant-loop-bit l = record { multiple : parts l.times ≡ l.fn.n / 2 ^ (64 - l.bit) * l.fn.num; den : l.times.den ≡ l.fn.self.den }
