-- The values so far without a reading are counted.
use Rattle.std.proofs.Common.{◌≡◌, take}
use Rattle.calibration.specs.History.{missing_count}
use Rattle.calibration.proofs.classifier.Classifier.missing_among.Given as goal

abbrev pub invariant-loop-raw : goal.invariant-loop-raw
invariant-loop-raw l = record {
  missing : l.missing ≡ missing_count l.self.grid l.self.gain (take l.raw-index l.raws);
}
