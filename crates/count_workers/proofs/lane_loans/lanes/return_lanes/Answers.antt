use Rattle.std.proofs.Common.{arith, ◌≡◌, ◌<◌, ◌≤◌, ◌+◌, suc, length, get_or, subst, ap, ◌∙◌, vec_len}
use Rattle.std.proofs.lemmas.List.{get_or-set_other, get_or_default}
use Rattle.std.proofs.Math.ListN.{length-set}
use Rattle.board.specs.flow.Kept.{over}
use Rattle.count_workers.specs.declared.block_workers.jobs.Reader.{Reader}
use Rattle.count_workers.specs.lane_loans.Lent.{ReturnsSource, blanks_at}
use Rattle.count_workers.proofs.on_lane_loans.Walking.{set_two, map_at, over_next}
use Rattle.count_workers.proofs.lane_loans.lanes.return_lanes.Goals as goal
use Rattle.board.proofs.on_deposits.Going.{same_pool}

pub return_lane-requires-clause-room : goal.return_lane-requires-clause-room
return_lane-requires-clause-room h c =
    let k = c.loop-g.g in let rs = c.loop-g.readers in let rs0 = c.args.readers.now in let x = c.index-readers-g.result in
    let first : k < length rs0 = omega (arith, c.loop-g.invariant.long) in
    let here : blanks_at rs0 k ≡ vec_len (get_or rs0 k x).desk.blanks = map_at (λ (r : Reader _). vec_len r.desk.blanks) rs0 k 0 x first in
    let same : vec_len (get_or rs k x).desk.blanks ≡ vec_len (get_or rs0 k x).desk.blanks =
    ap (λ (r : Reader _). vec_len r.desk.blanks) (c.loop-g.invariant.rest_readers k x (omega arith)) in
    let next : blanks_at rs0 k + over k (blanks_at rs0) ≤ over (length rs0) (blanks_at rs0) =
    over_next k (length rs0) (blanks_at rs0) first in
    omega (arith, c.loop-g.invariant.inside, c.loop-g.invariant.same.units, c.requires.room, here, same, next)

pub loop-g-preserved : goal.loop-g-preserved
loop-g-preserved h c =
    let k = c.loop-g.g in let rs = c.loop-g.readers in let ls = c.loop-g.lanes in let rs0 = c.args.readers.now in
    let ls0 = c.args.lanes.now in
    let x = c.index-readers-g.result in let y = c.index-lanes-g.result in let a = c.return_lane.new.reader in
    let b = c.return_lane.new.lane in
    let lr : k < length rs = omega arith in
    let ll : k < length ls = omega (arith, c.loop-g.invariant.long, c.loop-g.invariant.wide, c.requires.long) in
    let first : k < length rs0 = omega (arith, c.loop-g.invariant.long) in
    let here : blanks_at rs0 k ≡ vec_len (get_or rs0 k x).desk.blanks = map_at (λ (r : Reader _). vec_len r.desk.blanks) rs0 k 0 x first in
    let same : vec_len (get_or rs k x).desk.blanks ≡ vec_len (get_or rs0 k x).desk.blanks =
    ap (λ (r : Reader _). vec_len r.desk.blanks) (c.loop-g.invariant.rest_readers k x (omega arith)) in
    let one : k + 1 ≡ suc k = omega arith in
    let more : over (k + 1) (blanks_at rs0) ≡ blanks_at rs0 k + over k (blanks_at rs0) = ap (λ j. over j (blanks_at rs0)) one in
    record {
      long = length-set rs k a ∙ c.loop-g.invariant.long;
      wide = length-set ls k b ∙ c.loop-g.invariant.wide;
      returned = λ u d e m. set_two ReturnsSource rs0 rs ls0 ls k a b d e lr ll (λ i n. c.loop-g.invariant.returned i d e n)
          (subst (λ r. ReturnsSource r a (get_or ls0 k e) b)
          (get_or_default rs k x d lr ∙ c.loop-g.invariant.rest_readers k d (omega arith))
          (subst (λ l. ReturnsSource (get_or rs k x) a l b) (get_or_default ls k y e ll
          ∙ c.loop-g.invariant.rest_lanes k e (omega arith)) c.return_lane.ensures.returned)) u m;
      rest_readers = λ u d m. get_or-set_other rs k u a d (λ e. omega arith) ∙ c.loop-g.invariant.rest_readers u d (omega arith);
      rest_lanes = λ u d m. get_or-set_other ls k u b d (λ e. omega arith) ∙ c.loop-g.invariant.rest_lanes u d (omega arith);
      same = same_pool c.args.pool.now c.loop-g.pool c.return_lane.new.pool c.loop-g.invariant.same c.return_lane.ensures.pool.0;
      inside = omega (arith, c.loop-g.invariant.inside, c.return_lane.ensures.pool.1, here, same, more);
    }
