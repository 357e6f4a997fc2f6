use Rattle.std.proofs.Common.{◌≡◌, ℕ, ◌<◌, ◌≤◌, length, get_or}
use Rattle.tally.specs.declared.cells.Cell.{Cell}
use Rattle.tally.specs.Layout.{row_start}
use Rattle.tally.proofs.Ordered.{IsCellAt}
use Rattle.tally.proofs.layout.write_cells.Given as goal

abbrev pub invariant-loop-i : goal.invariant-loop-i
invariant-loop-i l = record {
  length_kept : length l.out ≡ length l.initial.out;
  row : (j : ℕ) → l.i ≤ j → j < l.used → row_start l.classes l.lo ≤ get_or l.touched j 0;
  written : (j : ℕ) (d : Cell) → j < l.i → IsCellAt l.classes l.counts (get_or l.touched j 0) (get_or l.out j d);
}
