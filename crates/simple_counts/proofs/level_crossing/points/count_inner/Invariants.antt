use Rattle.std.proofs.Common.{◌≡◌, ℕ, ◌+◌, ◌-◌, ◌≤◌, length, get_or, take}
use Rattle.simple_counts.specs.level_crossing.Halves.{HasExtremes, IsOpen}
use Rattle.simple_counts.proofs.level_crossing.points.count_inner.Given as goal

-- the steps before the point i are counted, but for the first half and the last
abbrev pub invariant-loop-i : goal.invariant-loop-i
invariant-loop-i l = record {
  opens : IsOpen l.reference l.begins l.stops l.bottoms (l.i - 1 - l.bottoms) l.list l.i;
  extremes : HasExtremes l.reference l.begins l.stops (take (l.i + 1) l.list);
  some : l.bottoms + 1 ≤ l.i;
  begins_length : length l.begins ≡ length l.initial.begins;
  stops_length : length l.stops ≡ length l.initial.stops;
  begins_few : (k : ℕ) → get_or l.begins k 0 ≤ l.i;
  stops_few : (k : ℕ) → get_or l.stops k 0 ≤ l.i;
}
