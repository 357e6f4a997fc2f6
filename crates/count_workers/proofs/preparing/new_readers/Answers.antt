use Rattle.std.proofs.Common.{rules, arith, ◌≡◌, ◌+◌, length}
use Rattle.count_workers.specs.Preparing.{IsFreshReader}
use Rattle.count_workers.proofs.Preparation.{pushed}
use Rattle.count_workers.proofs.preparing.new_readers.Goals as goal

pub loop-gauge-preserved : goal.loop-gauge-preserved
loop-gauge-preserved h c =
    let k = c.loop-gauge.gauge in let xs = c.loop-gauge.readers in let ys = c.push_reserved.new.self in
    let n : length xs.items ≡ k = search rules in
    let more : length ys.items ≡ k + 1 = search rules in
    record {
      long = search rules;
      room = search rules;
      fresh = λ g d m. pushed (λ i x. IsFreshReader c.args.plan.now i 0 x) xs.items ys.items c.in_ok-new_reader.field-0 k
          c.push_reserved.ensures.items n (λ u e o. c.loop-gauge.invariant.fresh u e (omega (arith, o, n))) c.in_ok-new_reader.ensures g d
          (omega (arith, m, more));
    }
