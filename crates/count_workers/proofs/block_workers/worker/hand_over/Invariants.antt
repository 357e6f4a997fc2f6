use Rattle.std.proofs.Common.{◌≡◌, []}
use Rattle.count_workers.specs.block_workers.Working.{HandsOver}
use Rattle.count_workers.proofs.block_workers.worker.hand_over.Given as goal

abbrev pub invariant-loop : goal.invariant-loop
invariant-loop g l = record { came : HandsOver l.fn.worker l.worker []; same : l.filled ≡ l.fn.filled }
