use Rattle.std.proofs.Common.{rules}
use Rattle.board.proofs.on_block_pool.Fitting.{all_push}
use Rattle.board.proofs.block_pool.pool.Pool.new.Goals as goal

pub loop-preserved : goal.loop-preserved
loop-preserved c =
    record {
      long = search rules;
      room = search rules;
      fits =
          all_push c.args.block c.args.grid.now c.loop.free.items _ c.in_ok-new.field-0 c.loop.invariant.fits
          (search rules) c.push_reserved.ensures.items;
    }
