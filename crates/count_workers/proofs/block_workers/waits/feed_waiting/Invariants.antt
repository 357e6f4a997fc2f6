use Rattle.std.proofs.Common.{◌≡◌}
use Rattle.count_workers.specs.gauge_ring.Ends.{fed, IsSameFeeder}
use Rattle.count_workers.proofs.block_workers.waits.feed_waiting.Given as goal

abbrev pub invariant-loop : goal.invariant-loop
invariant-loop g l = (fed l.feeder ≡ fed l.initial.feeder) × (l.item ≡ l.initial.item) × IsSameFeeder l.initial.feeder l.feeder
