use Rattle.std.proofs.Common.{arith, ◌<◌, length}
use Rattle.std.proofs.lemmas.List.{get_or_default}
use Rattle.count_workers.proofs.on_collector.Coming.{looked_more, looked_grid}
use Rattle.count_workers.proofs.collector.collecting.look_at_all.Goals as goal

pub loop-v-init : goal.loop-v-init
loop-v-init c = record { more = λ b p old h. h; grid = c.requires.grid }

pub loop-v-preserved : goal.loop-v-preserved
loop-v-preserved c =
    let v = c.loop-v.v in let rs = c.loop-v.returns in let x = c.index-returns-v.result in
    let l : v < length rs = omega arith in
    record {
      more = λ b p old h. looked_more b c.loop-v.board c.look-came.new.board p c.loop-v.pool c.look-came.new.pool old rs v _
          c.look-came.new.back l (λ e. get_or_default rs v e x l) (c.loop-v.invariant.more b p old h) c.look-came.ensures;
      grid = looked_grid c.loop-v.board c.look-came.new.board c.loop-v.pool c.look-came.new.pool _ c.look-came.new.back
          c.look-came.ensures c.loop-v.invariant.grid;
    }
