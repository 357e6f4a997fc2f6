use Rattle.std.proofs.Common.{◌≡◌, drop}
use Rattle.tally.specs.tables.Bins.{count_at}
use Rattle.segment.proofs.segment_rules.sums.count_at.Given as goal

abbrev pub invariant-loop-bin : goal.invariant-loop-bin
invariant-loop-bin l = count_at l.key (drop l.bin-index l.bins) ≡ count_at l.key l.bins
