use Rattle.std.proofs.Common.{refl, []}
use Rattle.count_workers.proofs.on_block_workers.Steps.{hands_none, hands_both}
use Rattle.count_workers.proofs.block_workers.worker.fetch_all.Goals as goal

pub loop-init : goal.loop-init
loop-init g c = record { came = hands_none c.args.worker.now c.args.worker.now refl refl refl refl refl }

pub loop-preserved-then-not-fetch : goal.loop-preserved-then-not-fetch
loop-preserved-then-not-fetch g c = record {
  came = hands_both c.args.worker.now c.loop.worker c.fetch.new.worker [] [] c.loop.invariant.came c.fetch.ensures;
}

pub loop-preserved : goal.loop-preserved
loop-preserved g c = record {
  came = hands_both c.args.worker.now c.loop.worker c.fetch.new.worker [] [] c.loop.invariant.came c.fetch.ensures;
}
