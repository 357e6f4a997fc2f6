use Rattle.std.proofs.Common.{◌≡◌, ◌≤◌, vec_len, vec_capacity}
use Rattle.count_workers.specs.Preparing.{NewReaders}
use Rattle.count_workers.proofs.preparing.new_readers.Given as goal

abbrev pub invariant-loop-gauge : goal.invariant-loop-gauge
invariant-loop-gauge h l = record {
  long : vec_len l.readers ≡ l.gauge;
  room : l.fn.plan.gauges ≤ vec_capacity l.readers;
  fresh : NewReaders l.fn.plan 0 l.readers.items;
}
