use Rattle.std.proofs.Common.{◌^◌, ◌<◌, take, arith, reverse, refl}
use Rattle.turning_points.proofs.on_three_point.RunNext.{run_next, All-read}
use Rattle.turning_points.proofs.three_point.listing.astm.Goals as goal

pub loop-point-preserved : goal.loop-point-preserved
loop-point-preserved c =
    let i = c.loop-point.invariant in
    let r = c.read-len.ensures in
    let below = (c.type_inv.points c.loop-point.point-index).fits in
    record {
      answer = run_next _ _ _ c.args.points.now (reverse (take c.loop-point.len c.loop-point.live)) _ c.loop-point.point-index
          c.loop-point-test.true (r.holds _ refl) r.live i.answer;
      below = All-read (λ x. x < 2 ^ 16) _ (take c.loop-point.len c.loop-point.live) _ below i.below r.live;
      fewer = omega arith;
      places = omega arith;
      room = omega arith;
    }
