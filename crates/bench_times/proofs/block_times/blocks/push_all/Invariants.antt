use Rattle.std.proofs.Common.{◌≡◌, ◌+◌, ◌*◌, ◌≤◌, ◌⊎◌, length}
use Rattle.tally.specs.Counts.{HasGreatestRoom, total_of}
use Rattle.bench_times.proofs.block_times.blocks.push_all.Given as goal

abbrev pub invariant-loop-i : goal.invariant-loop-i
invariant-loop-i l = record {
  classes : l.reducer.classes ≡ l.classes;
  same : l.tally.classes ≡ l.classes;
  room : HasGreatestRoom l.tally ⊎ (length l.levels ≤ 2 * l.tally.room);
  total : total_of l.tally.cells + length l.reducer.residue ≤ l.i;
  cells : 2 * length l.tally.cells + length l.reducer.residue ≤ l.i;
}
