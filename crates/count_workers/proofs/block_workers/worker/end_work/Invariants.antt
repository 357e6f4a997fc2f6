use Rattle.count_workers.specs.block_workers.Working.{CanWork, WorksOn}
use Rattle.count_workers.proofs.block_workers.worker.end_work.Given as goal

abbrev pub invariant-loop : goal.invariant-loop
invariant-loop g l = record { can : CanWork l.worker; on : WorksOn l.fn.worker l.worker }
