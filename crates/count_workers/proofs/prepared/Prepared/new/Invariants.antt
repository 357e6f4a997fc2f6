use Rattle.std.proofs.Common.{◌≤◌, vec_capacity}
use Rattle.count_workers.proofs.Preparation.{Preparing}
use Rattle.count_workers.proofs.prepared.Prepared.new.Given as goal

abbrev pub invariant-loop-number : goal.invariant-loop-number
invariant-loop-number h l = record {
  prepared : Preparing l.plan l.number l.readers.items l.workers.items l.returns.items;
  workers_room : l.plan.workers ≤ vec_capacity l.workers;
  returns_room : l.plan.workers ≤ vec_capacity l.returns;
}
