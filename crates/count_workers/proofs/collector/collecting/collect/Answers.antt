use Rattle.count_workers.proofs.on_collector.Coming.{none_came}
use Rattle.count_workers.proofs.collector.collecting.collect.Goals as goal

pub returns : goal.returns
returns g c = c.collect_rest.ensures c.args.board.now c.args.pool.now c.args.returns.now
    (none_came c.args.board.now c.args.pool.now c.args.returns.now c.requires.awaited)
