use Rattle.std.proofs.Common.{◌≡◌, ◌≤◌, ◌-◌, ℤ, List, length}
use Rattle.recording.proofs.Reading.{Splits}
use Rattle.recount.specs.Counted.{HasCountedPairs}
use Rattle.recount.proofs.count.take_samples.Given as goal
use Rattle.recording.specs.declared.TheConstants.{PIECE}

-- what was counted are some samples, and the source had these and then those that are left
abbrev pub invariant-loop-count : goal.invariant-loop-count
invariant-loop-count g l = record {
  read : (w : List ℤ) × HasCountedPairs l.classifier.grid l.classifier.gain l.count w ×
      (g.S.Source.tells → Splits (g.S.Source.left l.fn.src) w (g.S.Source.left l.src));
  few : l.count.counts.samples ≤ l.samples;
  steady : g.S.Source.faults l.src ≡ g.S.Source.faults l.fn.src;
  raws : length l.raws ≡ PIECE;
  levels : length l.levels ≡ PIECE;
}

abbrev pub decreases-loop-count : goal.decreases-loop-count
decreases-loop-count g l = l.samples - l.count.counts.samples
