use Rattle.std.proofs.Common.{◌≡◌, ◌+◌, ◌<◌}
use Prim.Native.Nat.{◌^◌}
use Rattle.csv.specs.Records.{fields_of}
use Rattle.csv_recording.specs.Column.{place_of}
use Rattle.csv_recording.proofs.ColumnFacts.{place_from}
use Rattle.csv_recording.proofs.columns.place_of.Given as goal

abbrev pub invariant-loop-place : goal.invariant-loop-place
invariant-loop-place l = record {
  fits : l.place + (goal.iterator-loop-place).remaining l.field-iterator < 2 ^ 64;
  row : l.field-iterator.row.now ≡ l.fn.header;
  at : l.field-iterator.at ≡ l.place;
  found : place_from l.fn.name l.place (fields_of l.fn.header) ≡ place_of l.fn.name (fields_of l.fn.header);
}
