use Rattle.std.proofs.Common.{refl}
use Rattle.count_workers.proofs.on_block_workers.Steps.{begun}
use Rattle.count_workers.proofs.block_workers.worker.begin_work.Goals as goal

pub returns : goal.returns
returns c = begun c.args.worker.now _ refl refl refl refl refl c.requires
