use Rattle.std.proofs.Common.{◌<◌, ◌-◌, ◌^◌, slice_index, arith}
use Rattle.demo_command.proofs.Sums.{all_halves-more, bound_more}
use Rattle.demo_command.proofs.text.sum_of.Goals as goal

pub loop-k-preserved : goal.loop-k-preserved
loop-k-preserved c =
    let k = c.loop-k.k in
    let was = c.loop-k.invariant in
    let fits : slice_index c.args.halves.now k < 2 ^ 64 = (c.type_inv.halves k).fits in
    record {
      so_far = all_halves-more (λ i. slice_index c.args.halves.now i) c.loop-k.sum c.from-sum.result k c.loop-k.auto.k was.so_far
          c.from-sum.ensures;
      bound = bound_more c.loop-k.sum c.from-sum.result k was.bound (omega (arith, c.from-sum.ensures, fits));
    }
