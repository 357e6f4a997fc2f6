-- The values so far have their levels at the front, and those without a reading are counted.
use Rattle.std.proofs.Common.{◌≡◌, length, take}
use Rattle.calibration.specs.History.{history}
use Rattle.calibration.proofs.classifier.Classifier.put_levels.Given as goal

abbrev pub invariant-loop-raw : goal.invariant-loop-raw
invariant-loop-raw l = record {
  levels : take l.used l.levels ≡ history l.self.grid l.self.gain (take l.raw-index l.raws);
  used : l.used ≡ length (history l.self.grid l.self.gain (take l.raw-index l.raws));
}
