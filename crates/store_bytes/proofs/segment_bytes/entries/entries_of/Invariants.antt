use Rattle.std.proofs.Common.{◌≡◌, ◌≤◌, ◌-◌, length}
use Rattle.store_bytes.specs.segment_bytes.Fields.{entry_list}
use Rattle.store_bytes.proofs.on_segment_bytes.Loops.{with_front}
use Rattle.store_bytes.proofs.segment_bytes.entries.entries_of.Given as goal

abbrev pub invariant-loop : goal.invariant-loop
invariant-loop g l = record {
  so_far : with_front l.entries.items (entry_list g.T.Entry.at (l.count - l.counter) l.have l.rest)
      ≡ entry_list g.T.Entry.at l.count l.have l.bytes;
  within : length l.rest ≤ length l.bytes;
}
