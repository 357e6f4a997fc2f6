use Rattle.std.specs.List.{All}
use Rattle.count_workers.specs.block_workers.Working.{CanWork}
use Rattle.count_workers.specs.running.Going.{AllWorkOn}
use Rattle.count_workers.proofs.running.passing.pass_to_all.Given as goal

abbrev pub invariant-loop-v : goal.invariant-loop-v
invariant-loop-v g l = record { on : AllWorkOn l.fn.workers l.workers; can : All CanWork l.workers }
