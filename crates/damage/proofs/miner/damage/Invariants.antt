-- The ranges below k are in the total.
use Rattle.std.proofs.Common.{◌≡◌, ◌-◌, ◌≤◌, ℕ, List, take, drop}
use Rattle.std.specs.Prelude.{sum}
use Rattle.damage.specs.sn_curve.Curve.{denominator_of}
use Rattle.damage.specs.exact_frac.Frac.{parts}
use Rattle.damage.specs.miner.Damage.{AreShares, damage_sum}
use Rattle.damage.proofs.miner.damage.Given as goal

abbrev pub invariant-loop-k : goal.invariant-loop-k
invariant-loop-k l = record {
  den : l.total.den ≡ denominator_of l.detail;
  shares : List ℕ;
  are_shares : AreShares l.detail l.grid l.total.den l.k shares;
  so_far : parts l.total ≡ damage_sum (take (l.k - 1) (drop 1 l.half_counts)) shares;
  few : l.total.whole ≤ sum (take l.k l.half_counts);
}
