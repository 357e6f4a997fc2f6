use Rattle.std.proofs.Common.{◌≡◌, ◌+◌, ◌-◌, ◌*◌, ◌^◌, ◌≤◌, drop}
use Rattle.tally.specs.tables.Bins.{sum_of}
use Rattle.segment.proofs.segment_rules.sums.sum_of_bins.Given as goal

abbrev pub invariant-loop-bin : goal.invariant-loop-bin
invariant-loop-bin l = record {
  so_far : l.sum + sum_of (drop l.bin-index l.bins) ≡ sum_of l.bins;
  bound : l.sum ≤ l.bin-index * (2 ^ 64 - 1);
}
