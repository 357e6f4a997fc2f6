use Rattle.std.proofs.Common.{◌≡◌, ◌≤◌, drop}
use Rattle.csv_recording.proofs.CellFacts.{magnitude_after}
use Rattle.csv_recording.proofs.cells.unsigned_reading.Given as goal

abbrev pub invariant-loop-digit : goal.invariant-loop-digit
invariant-loop-digit l = (l.value ≤ 2147483647) × (magnitude_after l.value (drop l.digit-index l.fn.digits) ≡ magnitude_after 0 l.fn.digits)
