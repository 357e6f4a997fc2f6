use Rattle.count_workers.specs.running.Going.{GoesOn}
use Rattle.count_workers.proofs.running.passing.pass_rest.Given as goal

abbrev pub invariant-loop : goal.invariant-loop
invariant-loop g l = record { on : GoesOn l.fn.workers l.workers l.fn.depot l.depot l.fn.returns l.returns }
