-- A thousand million times the part has the billionths as wholes, and its rest rounds up.
use Rattle.std.proofs.Common.{◌≡◌, ℕ, ◌+◌, ◌*◌, ap, subst, ◌∙◌, arith}
use Rattle.damage.specs.exact_frac.Frac.{IsCeilingInBillionths}
use Rattle.damage.proofs.on_exact_frac.Ceiling.{is_ceiling}
use Rattle.damage.proofs.exact_frac.frac.Frac.ceil_decimals.Goals as goal

-- `add_times` began with nothing
from_nothing : (w n d p x : ℕ) → w ≡ 0 → n ≡ 0 → p ≡ w * d + n + x → p ≡ x
from_nothing w n d p x v m e = omega (arith, ap (λ y. y * d) v)

pub returns-then-rounded-eq-BILLION-clause-least :
    goal.returns-then-rounded-eq-BILLION-clause-least
returns-then-rounded-eq-BILLION-clause-least c =
    subst (IsCeilingInBillionths c.args.self.now) (omega arith)
    (is_ceiling c.args.self.now c.add_times.new.self.whole c.add_times.new.self.num c.add_times.new.self.den c.add_times.new.self.below_one
    (c.add_times.ensures.den ∙ c.zero-billionths.ensures.den)
    (from_nothing _ _ _ _ _ c.zero-billionths.ensures.whole c.zero-billionths.ensures.num c.add_times.ensures.sum))

pub returns-else-rounded-eq-BILLION-clause-least :
    goal.returns-else-rounded-eq-BILLION-clause-least
returns-else-rounded-eq-BILLION-clause-least c =
    is_ceiling c.args.self.now c.add_times.new.self.whole c.add_times.new.self.num c.add_times.new.self.den c.add_times.new.self.below_one
    (c.add_times.ensures.den ∙ c.zero-billionths.ensures.den)
    (from_nothing _ _ _ _ _ c.zero-billionths.ensures.whole c.zero-billionths.ensures.num c.add_times.ensures.sum)
