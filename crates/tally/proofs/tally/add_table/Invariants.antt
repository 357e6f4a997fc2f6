use Rattle.std.proofs.Common.{◌≡◌, ◌<◌, length, get_or}
use Rattle.std.specs.Prelude.{Some}
use Rattle.tally.specs.declared.cells.Cell.{Cell}
use Rattle.tally.proofs.AddEntries.{HasEntries}
use Rattle.tally.proofs.tally.add_table.Given as goal

abbrev pub invariant-loop : goal.invariant-loop
invariant-loop l = record {
  merged : HasEntries l.initial.log l.log l.others.cells l.counter;
  from : (d : Cell) → l.counter < length l.others.cells → l.from ≡ Some (get_or l.others.cells l.counter d);
}
