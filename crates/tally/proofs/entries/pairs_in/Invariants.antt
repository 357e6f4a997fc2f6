use Rattle.std.proofs.Common.{◌≡◌, ◌<◌, ◌≤◌, ◌⊎◌, length, get_or}
use Rattle.std.specs.Prelude.{Some, None}
use Rattle.tally.specs.declared.cells.Cell.{Cell}
use Rattle.tally.specs.Log.{cells_of}
use Rattle.tally.proofs.entries.pairs_in.Given as goal

abbrev pub invariant-loop : goal.invariant-loop
invariant-loop l = record {
  bound : l.pairs ≤ length (cells_of l.entries);
  each : (l.pairs ≡ l.counter) ⊎ (l.pairs ≡ length (cells_of l.entries));
  from : (d : Cell) → l.pairs < length (cells_of l.entries) → l.next ≡ Some (get_or (cells_of l.entries) l.pairs d);
  last : l.pairs ≡ length (cells_of l.entries) → l.next ≡ None;
}
