use Rattle.std.proofs.Common.{rules}
use Rattle.count_workers.proofs.on_lane_loans.Lending.{fits_first, pool_changed}
use Rattle.count_workers.proofs.lane_loans.units.lend_units.Goals as goal
use Rattle.board.proofs.on_block_pool.Fitting.{all_push}

pub loop-preserved : goal.loop-preserved
loop-preserved c = record {
  long = search rules;
  room = search rules;
  same = pool_changed c.args.pool.now c.loop.pool _ _ c.loop.invariant.same c.lend.ensures.pool;
  inside = search rules;
  fit = all_push _ _ c.loop.blanks.items _ c.in-Some.unit c.loop.invariant.fit
      (fits_first c.args.pool.now c.loop.pool c.in-Some.unit c.loop.invariant.same c.in-Some.ensures.unit) c.push_reserved.ensures.items;
}
