use Rattle.std.proofs.Common.{◌≡◌, ◌+◌, ◌*◌, ◌++◌, length, drop, take}
use Rattle.std.specs.List.{flat_map}
use Rattle.store_bytes.specs.segment_bytes.Grammar.{bin}
use Rattle.store_bytes.specs.segment_bytes.Writing.{bins_of}
use Rattle.store_bytes.proofs.segment_bytes.writing.put_bins.Given as goal

abbrev pub invariant-loop-n : goal.invariant-loop-n
invariant-loop-n l = record {
  front : take l.at l.buf ++ flat_map bin (bins_of l.next (drop l.n-index l.counts)) ≡ take l.fn.at l.fn.buf ++ flat_map bin
      (bins_of l.key l.counts);
  place : l.at + 10 * length (bins_of l.next (drop l.n-index l.counts)) ≡ l.fn.at + 10 * length (bins_of l.key l.counts);
  next : l.next ≡ l.key + l.n-index;
  long : length l.buf ≡ length l.fn.buf;
}
