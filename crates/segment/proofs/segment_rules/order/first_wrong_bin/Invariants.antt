use Rattle.std.proofs.Common.{◌≡◌, ◌≤◌, ◌^◌, drop}
use Rattle.segment.specs.segment_rules.Tests.{wrong_bin}
use Rattle.segment.proofs.segment_rules.order.first_wrong_bin.Given as goal

abbrev pub invariant-loop-bin : goal.invariant-loop-bin
invariant-loop-bin l = record {
  so_far : wrong_bin l.least l.to l.place (drop l.bin-index l.bins) ≡ wrong_bin l.from l.to 0 l.bins;
  at : l.place ≡ l.bin-index;
  ascends : l.bin-index ≤ l.least;
  small : l.least ≤ 2 ^ 16;
}
