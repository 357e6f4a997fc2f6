use Rattle.std.proofs.Common.{◌≤◌, ◌≡◌, length}
use Rattle.recording.proofs.Reading.{Splits}
use Rattle.calibration.specs.declared.limits.TheConstants.{MAX_SAMPLES}
use Rattle.recording.specs.declared.TheConstants.{PIECE}
use Rattle.file_commands.proofs.sheet_command.reading.read_body.Given as goal

-- the body has the samples so far, and then those that are left
abbrev pub invariant-loop : goal.invariant-loop
invariant-loop g l = record {
  read : g.S.Source.tells → Splits (g.S.Source.left l.fn.src) l.samples.items (g.S.Source.left l.src);
  turns : l.counter ≤ length l.samples.items;
  few : length l.samples.items ≤ MAX_SAMPLES;
  steady : g.S.Source.faults l.src ≡ g.S.Source.faults l.fn.src;
  piece : length l.piece ≡ PIECE;
}
