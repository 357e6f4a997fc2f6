use Rattle.std.proofs.Common.{◌≡◌, ◌<◌, ◌≤◌, ◌^◌, ℕ, length, get_or}
use Rattle.segment.specs.Figures.{doubled_cycles}
use Rattle.segment.proofs.segment.Segment.put_cycles_above.Given as goal

abbrev pub invariant-loop-hi : goal.invariant-loop-hi
invariant-loop-hi l = record {
  each : (j : ℕ) → l.lo < j → j < l.hi → get_or l.out j 0 ≡ doubled_cycles l.self l.lo j;
  few : (j : ℕ) → get_or l.out j 0 ≤ 2 ^ 62;
  length : length l.out ≡ length l.initial.out;
}
