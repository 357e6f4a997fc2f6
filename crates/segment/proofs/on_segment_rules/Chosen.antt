-- A rule that a test or a place tells is broken: there is none exactly where the test is passed, or no place.
use Rattle.std.proofs.Common.{◌≡◌, ℕ, Bool, true, false, Option, Some, None, refl, ap}
use Rattle.segment.specs.segment_rules.Tests.{order_broken, unless}

pub no_place : (list : ℕ) (o : Option ℕ) → order_broken list o ≡ None → o ≡ None
no_place list None e = refl
no_place list (Some i) e = absurd cc

pub kept : {F : Type 0} (b : Bool) (f : F) → unless b f ≡ None → b ≡ true
kept true f e = refl
kept false f e = absurd cc

pub kept_none : {F : Type 0} (b : Bool) (f : F) → b ≡ true → unless b f ≡ None
kept_none b f e = ap (λ c. unless c f) e
