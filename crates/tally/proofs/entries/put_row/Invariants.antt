use Rattle.std.proofs.Common.{◌≡◌, ℕ, ◌+◌, ◌<◌, length, take}
use Rattle.std.specs.Prelude.{slice_index}
use Rattle.tally.specs.Log.{amount}
use Rattle.tally.proofs.entries.put_row.Given as goal

abbrev pub invariant-loop-entry : goal.invariant-loop-entry
invariant-loop-entry l = record {
  length_kept : length l.out ≡ length l.initial.out;
  so_far : (k : ℕ) → k < length l.out → slice_index l.out k ≡ amount (take l.entry-index l.entries) l.lo (l.lo + 1 + k);
}
