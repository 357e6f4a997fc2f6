-- The values so far have their levels at the front.
use Rattle.std.proofs.Common.{◌≡◌, ◌≤◌, ◌-◌, length, take}
use Rattle.calibration.specs.History.{history}
use Rattle.calibration.proofs.classifier.Classifier.levels.Given as goal

abbrev pub invariant-loop-from : goal.invariant-loop-from
invariant-loop-from l = record {
  from : l.from ≤ length l.raws;
  levels : take l.used l.levels ≡ history l.self.grid l.self.gain (take l.from l.raws);
  used : l.used ≡ length (history l.self.grid l.self.gain (take l.from l.raws));
  length : length l.levels ≡ length l.initial.levels;
}

abbrev pub decreases-loop-from : goal.decreases-loop-from
decreases-loop-from l = length l.raws - l.from
