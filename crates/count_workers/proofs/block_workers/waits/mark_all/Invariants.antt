use Rattle.std.proofs.Common.{◌≡◌, ◌<◌, ◌≤◌, ◌++◌, ◌∷◌, [], ℕ, length, slice_index_or}
use Rattle.count_workers.specs.gauge_ring.Ends.{fed, IsSameFeeder}
use Rattle.count_workers.specs.declared.block_workers.item.Item.TheVariants.{Mark}
use Rattle.count_workers.proofs.block_workers.waits.mark_all.Given as goal

abbrev pub invariant-loop-v : goal.invariant-loop-v
invariant-loop-v g l = record {
  long : length l.feeders ≡ length l.fn.feeders;
  same : (u : ℕ) (d : _) → IsSameFeeder (slice_index_or l.fn.feeders u d) (slice_index_or l.feeders u d);
  done : (u : ℕ) (d : _) → u < l.v → fed (slice_index_or l.feeders u d) ≡ fed (slice_index_or l.fn.feeders u d) ++ Mark ∷ [];
  rest : (u : ℕ) (d : _) → l.v ≤ u → slice_index_or l.feeders u d ≡ slice_index_or l.fn.feeders u d;
}
