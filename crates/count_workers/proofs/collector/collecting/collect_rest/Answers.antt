use Rattle.count_workers.proofs.on_collector.Coming.{all_came}
use Rattle.std.proofs.Common.{rules}
use Rattle.count_workers.proofs.collector.collecting.collect_rest.Goals as goal

pub loop-init : goal.loop-init
loop-init g c = record { more = λ b p old h. h; grid = c.requires.grid }

pub loop-preserved : goal.loop-preserved
loop-preserved g c = record {
  more = λ b p old h. c.look_at_all.ensures.more b p old (c.loop.invariant.more b p old h);
  grid = c.look_at_all.ensures.grid;
}

pub returns-then-all_marked : goal.returns-then-all_marked
returns-then-all_marked g c = λ b p old h. all_came _ _ _ _ _ _ (c.loop.invariant.more b p old h) (search rules)
