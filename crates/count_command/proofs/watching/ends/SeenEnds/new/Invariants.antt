use Rattle.std.proofs.Common.{◌≡◌, ◌≤◌, take, vec_capacity, vec_len}
use Rattle.segment_store.specs.Held.{ends_of}
use Rattle.count_command.proofs.watching.ends.SeenEnds.new.Given as goal

abbrev pub invariant-loop-gauge : goal.invariant-loop-gauge
invariant-loop-gauge l = record {
  starts : l.starts.items ≡ take l.gauge (ends_of l.store.held);
  room : (l.gauges ≤ vec_capacity l.starts) × (l.gauges ≤ vec_capacity l.ends);
  long : (vec_len l.starts ≡ l.gauge) × (vec_len l.ends ≡ l.gauge);
}
