use borrow.Author.Count.{below_more}
use Rattle.std.proofs.Common.{arith, ◌<◌, length, get_or, set, sym, subst, ◌∙◌}
use Rattle.std.proofs.lemmas.List.{get_or-set_same, get_or-set_other, get_or_default}
use Rattle.std.proofs.Math.ListN.{length-set}
use Rattle.count_workers.specs.block_workers.Jobs.{CanRead}
use Rattle.count_workers.specs.lane_loans.Lent.{LendsSource}
use Rattle.count_workers.proofs.on_lane_loans.Walking.{set_two}
use Rattle.count_workers.proofs.lane_loans.lanes.lend_lanes.Goals as goal
use Rattle.board.proofs.on_deposits.Going.{same_pool}

pub loop-g-preserved : goal.loop-g-preserved
loop-g-preserved h c =
    let k = c.loop-g.g in let rs = c.loop-g.readers in let ls = c.loop-g.lanes in let rs0 = c.args.readers.now in
    let ls0 = c.args.lanes.now in
    let x = c.index-readers-g.result in let y = c.index-lanes-g.result in let a = c.lend_lane.new.reader in let b = c.lend_lane.new.lane in
    let lr : k < length rs = omega arith in
    let ll : k < length ls = omega (arith, c.loop-g.invariant.long, c.loop-g.invariant.wide, c.requires.long) in
    record {
      long = length-set rs k a ∙ c.loop-g.invariant.long;
      wide = length-set ls k b ∙ c.loop-g.invariant.wide;
      lent = λ u d e m. set_two LendsSource rs0 rs ls0 ls k a b d e lr ll (λ i n. c.loop-g.invariant.lent i d e n)
          (subst (λ r. LendsSource r a (get_or ls0 k e) b) (get_or_default rs k x d lr ∙ c.loop-g.invariant.rest_readers k d (omega arith))
          (subst (λ l. LendsSource (get_or rs k x) a l b) (get_or_default ls k y e ll
          ∙ c.loop-g.invariant.rest_lanes k e (omega arith)) c.lend_lane.ensures.lent)) u m;
      ready = λ u d m. below_more (λ i. CanRead (get_or (set rs k a) i d)) k
          (λ i n. subst CanRead (sym (get_or-set_other rs k i a d (λ e. omega arith))) (c.loop-g.invariant.ready i d n))
          (subst CanRead (sym (get_or-set_same rs k a d lr)) c.lend_lane.ensures.ready) u m;
      rest_readers = λ u d m. get_or-set_other rs k u a d (λ e. omega arith) ∙ c.loop-g.invariant.rest_readers u d (omega arith);
      rest_lanes = λ u d m. get_or-set_other ls k u b d (λ e. omega arith) ∙ c.loop-g.invariant.rest_lanes u d (omega arith);
      same = same_pool c.args.pool.now c.loop-g.pool c.lend_lane.new.pool c.loop-g.invariant.same c.lend_lane.ensures.pool.0;
      inside = omega (arith, c.loop-g.invariant.inside, c.lend_lane.ensures.pool.1);
    }
