use Rattle.std.proofs.Common.{◌≡◌, length}
use Rattle.csv_recording.specs.Cells as spec
use Rattle.csv_recording.proofs.cells.without_blanks_before.Given as goal

abbrev pub invariant-blanks : goal.invariant-blanks
invariant-blanks l = spec.without_blanks_before l.rest ≡ spec.without_blanks_before l.fn.text

abbrev pub decreases-blanks : goal.decreases-blanks
decreases-blanks l = length l.rest
