-- While no value lies within, none has a level.
use Rattle.std.proofs.Common.{◌≡◌, false, [], take}
use Rattle.calibration.specs.History.{history}
use Rattle.calibration.proofs.classifier.Classifier.has_some_within.Given as goal

abbrev pub invariant-loop-raw : goal.invariant-loop-raw
invariant-loop-raw l = record {
  some : l.some ≡ false → history l.self.grid l.self.gain (take l.raw-index l.raws) ≡ [];
}
