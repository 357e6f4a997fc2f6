use Rattle.std.proofs.lemmas.List.{get_or_default}
use Rattle.count_workers.proofs.on_collector.Coming.{looked_more, looked_grid}
use Rattle.count_workers.proofs.collector.collecting.look_in_turn.Goals as goal

pub loop-init : goal.loop-init
loop-init c = record { more = λ b p old h. h; grid = c.requires.grid }

pub loop-preserved : goal.loop-preserved
loop-preserved c =
    let rs = c.loop.returns in let v = c.next_ring-v.result in let x = c.index-returns-v.result in
    record {
      more = λ b p old h. looked_more b c.loop.board c.look.new.board p c.loop.pool c.look.new.pool old rs v _
          c.look.new.back c.next_ring-v.ensures (λ e. get_or_default rs v e x c.next_ring-v.ensures)
          (c.loop.invariant.more b p old h) c.look.ensures;
      grid = looked_grid c.loop.board c.look.new.board c.loop.pool c.look.new.pool _ c.look.new.back c.look.ensures
          c.loop.invariant.grid;
    }

pub returns-then-not-look : goal.returns-then-not-look
returns-then-not-look c =
    let rs = c.loop.returns in let v = c.next_ring-v.result in let x = c.index-returns-v.result in
    record {
      more = λ b p old h. looked_more b c.loop.board c.look.new.board p c.loop.pool c.look.new.pool old rs v _
          c.look.new.back c.next_ring-v.ensures (λ e. get_or_default rs v e x c.next_ring-v.ensures)
          (c.loop.invariant.more b p old h) c.look.ensures;
      grid = looked_grid c.loop.board c.look.new.board c.loop.pool c.look.new.pool _ c.look.new.back c.look.ensures
          c.loop.invariant.grid;
    }
