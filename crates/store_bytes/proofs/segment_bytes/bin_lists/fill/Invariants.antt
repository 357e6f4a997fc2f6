use Rattle.std.proofs.Common.{◌≡◌, ℕ, ◌+◌, ◌<◌, length}
use Rattle.std.specs.Prelude.{slice_index}
use Rattle.store_bytes.specs.segment_bytes.Writing.{table_count}
use Rattle.store_bytes.proofs.segment_bytes.bin_lists.fill.Given as goal

abbrev pub invariant-loop-i : goal.invariant-loop-i
invariant-loop-i l = record {
  key : l.key ≡ l.first + l.i;
  so_far : (k : ℕ) → k < l.i → slice_index l.out k ≡ table_count l.segment l.table (l.first + k);
  long : length l.out ≡ length l.initial.out;
}
