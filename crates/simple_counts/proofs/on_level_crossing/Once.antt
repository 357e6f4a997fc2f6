-- A step crosses a boundary once at most.
use Rattle.std.proofs.Common.{◌≤◌, ℕ, Bool, true, false, arith}
use Rattle.std.proofs.lemmas.Bool.Decides.{nat_tests}
use Rattle.simple_counts.specs.level_crossing.Crossings.{joint_crossings}

pub joint_crossings_once : (b : Bool) (r l x y : ℕ) → joint_crossings b r l x y ≤ 1
joint_crossings_once true r l x y = grind (arith, nat_tests)
joint_crossings_once false r l x y = omega arith
