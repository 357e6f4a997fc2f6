-- Each turn adds one range, in the one denominator.
use Rattle.std.proofs.Common.{◌≡◌, ◌*◌, ◌∙◌, ◌∷◌, ◌++◌, [], sym, ap, subst, arith}
use Rattle.damage.specs.sn_curve.Curve.{IsShare, denominator_of}
use Rattle.damage.specs.exact_frac.Frac.{parts}
use Rattle.damage.specs.miner.Damage.{AreShares}
use Rattle.damage.proofs.on_miner.Sum.{no_shares, more_shares, sum_more, wholes_within}
use Rattle.damage.proofs.miner.damage.Goals as goal

pub loop-k-init : goal.loop-k-init
loop-k-init c = record {
  den = c.zero-total.ensures.den ∙ c.share-denominator.ensures.denominator;
  shares = [];
  are_shares = no_shares c.args.detail.now c.args.grid.now c.zero-total.result.den;
  so_far = omega (arith, ap (λ w. w * c.zero-total.result.den) c.zero-total.ensures.whole, c.zero-total.ensures.num);
  few = omega arith;
}

pub loop-k-preserved : goal.loop-k-preserved
loop-k-preserved c =
    let detail = c.args.detail.now in
    let grid = c.args.grid.now in
    let now = c.add_times.new.self in
    let k = c.loop-k.k in
    let n = c.share-numerator.result.0 in
    let den : now.den ≡ denominator_of detail = c.add_times.ensures.den ∙ c.loop-k.invariant.den in
    let one : c.share-numerator.result.1 ≡ now.den = c.share-numerator.ensures.denominator ∙ sym den in
    record {
      den = den;
      shares = c.loop-k.invariant.shares ++ n ∷ [];
      are_shares = more_shares detail grid now.den k n c.loop-k.invariant.shares (omega arith)
          (subst (λ d. AreShares detail grid d k c.loop-k.invariant.shares) (sym c.add_times.ensures.den) c.loop-k.invariant.are_shares)
          (subst (λ d. IsShare detail grid k n d) one c.share-numerator.ensures.share);
      so_far = sum_more k n (parts c.loop-k.total) _ c.args.half_counts.now c.loop-k.invariant.shares (omega arith) (omega arith)
          c.loop-k.invariant.are_shares.one_each c.loop-k.invariant.so_far c.add_times.ensures.sum;
      few = wholes_within c.loop-k.total.whole c.loop-k.total.num now.whole now.num n c.loop-k.total.den now.den k c.args.half_counts.now
          (omega arith) c.add_times.ensures.den c.add_times.ensures.sum c.loop-k.total.below_one (omega arith) c.loop-k.invariant.few;
    }
