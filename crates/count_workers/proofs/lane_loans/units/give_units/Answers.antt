use Rattle.std.proofs.Common.{rules, ◌<◌, vec_len}
use Rattle.count_workers.proofs.on_block_workers.Blocks.{popped}
use Rattle.count_workers.proofs.on_lane_loans.Lending.{fits_now, pool_changed}
use Rattle.count_workers.proofs.lane_loans.units.give_units.Goals as goal
use Rattle.board.proofs.on_block_pool.Fitting.{all_take}

pub give-requires-clause-fits : goal.give-requires-clause-fits
give-requires-clause-fits c =
    let some : 0 < vec_len c.loop.blanks = search rules in
    fits_now c.args.pool.now c.loop.pool c.in-Some.unit c.loop.invariant.same
    (popped _ _ (vec_len c.loop.blanks) c.loop.blanks.items c.in-Some.unit c.loop.invariant.fit c.loop.blanks.ok.0 some
    c.in-Some.ensures.value)

pub loop-preserved : goal.loop-preserved
loop-preserved c = record {
  left = search rules;
  room = search rules;
  same = pool_changed c.args.pool.now c.loop.pool _ _ c.loop.invariant.same c.give.ensures;
  inside = search rules;
  fit = all_take _ _ _ c.loop.blanks.items _ c.loop.invariant.fit c.in-Some.ensures.rest;
}
